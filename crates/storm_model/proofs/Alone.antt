-- Each owner by itself.
use Rattle.std.proofs.Common.{refl}
use Rattle.group_search.specs.Home.{home}
use Rattle.run_model.specs.Updates.{update_reply}
use Rattle.storm_model.specs.Laws.{IdleOwnersSayNothing, OwnersAnswerAlone, OwnersEndAlone}
use Rattle.storm_model.proofs.Idle.{accepts-nothing, says-nothing}
use Rattle.storm_model.proofs.Owned.{after-other, after-own}
use Rattle.storm_model.proofs.Phases.{own-end}

pub owners_answer_alone : OwnersAnswerAlone
unfolding home update_reply
owners_answer_alone opened journals asked low = record {
  reply = refl;
  own = after-own opened journals asked low;
  others = after-other opened journals asked;
}

pub owners_end_alone : OwnersEndAlone
owners_end_alone opened journals script owner one low = own-end opened script journals owner one low

pub idle_owners_say_nothing : IdleOwnersSayNothing
idle_owners_say_nothing opened owner changes script none = record {
  says_nothing = says-nothing opened owner changes script none;
  accepts_nothing = accepts-nothing opened owner changes script none;
}
