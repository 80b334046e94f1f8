use Rattle.std.proofs.lemmas.Bool.{false_from_ne_true}
use Rattle.group_history.proofs.Versions.{count_other, count_own, now_other, now_own}
use Rattle.group_history.proofs.laws.a_change_is_of_one_group.Goals as goal

pub returns : goal.returns
returns c = record {
  counted = λ changes change at is. count_own at changes change is;
  own = λ opening changes change at is. now_own at opening changes change is;
  not_counted = λ changes change at not. count_other at changes change (false_from_ne_true _ not);
  others = λ opening changes change at not. now_other at opening changes change (false_from_ne_true _ not);
}
