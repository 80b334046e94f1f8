use Rattle.std.proofs.Common.{arith, List, get_or, refl, ◌∙◌, subst}
use Rattle.group_search.specs.declared.rows.Row.{Row}
use Rattle.group_cell.specs.Laying.{in_front}
use Rattle.group_cell.specs.Rule.{RowsStand}
use Rattle.group_cell.proofs.Laid.{data_leaves, data_owners, group_laid, leaves-trans}
use Rattle.group_cell.proofs.table.laying.lay_group.Goals as goal

pub returns-clause-owners : goal.returns-clause-owners
returns-clause-owners c = let r = c.lay_rows.ensures in let wide = r.owners.wide in
    data_owners c.lay_rows.new.words c.lay_rows.new.owners c.args.group (get_or c.pack.result 0 0) (get_or c.pack.result 1 0) c.data_word.result c.data_word-2.result c.requires.group c.data_word.ensures c.data_word-2.ensures (omega arith) r.owners

pub returns-clause-others : goal.returns-clause-others
returns-clause-others c = let r = c.lay_rows.ensures in let wide = r.owners.wide in
    leaves-trans (in_front c.args.group) c.args.words.now c.lay_rows.new.words _ c.args.owners.now c.lay_rows.new.owners c.lay_rows.new.owners r.others
    (data_leaves c.lay_rows.new.words c.lay_rows.new.owners c.args.group (get_or c.pack.result 0 0) (get_or c.pack.result 1 0) c.data_word.result c.data_word-2.result c.requires.group c.data_word.ensures c.data_word-2.ensures (omega arith))

pub returns-clause-laid : goal.returns-clause-laid
returns-clause-laid c = let r = c.lay_rows.ensures in let wide = r.owners.wide in let kept = c.rows_kept.ensures in
    group_laid c.lay_rows.new.words c.lay_rows.new.owners c.args.group (get_or c.pack.result 0 0) (get_or c.pack.result 1 0) c.data_word.result c.data_word-2.result c.requires.group c.data_word.ensures c.data_word-2.ensures (omega arith)
    c.args.content.now c.pack.result refl refl c.pack.ensures.value c.pack.ensures.kept kept.sound
    (subst (λ (rows : List Row). RowsStand c.lay_rows.new.words (in_front c.args.group) rows) kept.value r.rows) r.version (r.mine ∙ kept.count)
