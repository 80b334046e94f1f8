-- The table at the start meets its rule.
use Rattle.std.proofs.Common.{◌≡◌, ℕ, zero, suc, List, [], ◌∷◌, get_or, refl, sym, subst, arith}
use Rattle.std.specs.Prelude.{All}
use Rattle.std.proofs.lemmas.List.Elements.{All-get_or}
use mathlib.Core.Option.{some, some-injective, some-ne-none}
use lib.ListN.{get_elem?}
use Rattle.atomic_table.specs.Table.{opening}
use Rattle.flow_types.specs.Size.{value_bits}
use Rattle.group_search.specs.declared.record.GroupRecord.{GroupRecord}
use Rattle.group_search.specs.declared.record.GroupRecord.TheVariants.{Served}
use Rattle.group_search.specs.Home.{Home}
use Rattle.group_search.specs.Image.{Image}
use Rattle.group_search.specs.Published.{opening_record}
use Rattle.group_search.specs.Words.{HasBits}
use Rattle.group_cell.specs.declared.view.View.{View}
use Rattle.group_cell.specs.declared.view.View.TheVariants.{Writer}
use Rattle.group_cell.specs.declared.view.WriterView.{WriterView}
use Rattle.group_cell.specs.Opening.{Opened}
use Rattle.group_cell.specs.Laying.{AreLaid}
use Rattle.group_search.specs.Records.{HasNodes}
use Rattle.group_cell.specs.Rule.{IsIn, Stands, AgreesWith, Kept}
use Rattle.group_cell.specs.Plays.{first_writer, first_view}
use Rattle.group_cell.specs.Seating.{Tallies}

-- each opening record is so
abbrev pub AllRecords : (GroupRecord → Type 0) → Opened → Type 0
AllRecords P o = All (λ (image : Image). All P image.records) o.images

opening_is : (P : GroupRecord → Type 0) (o : Opened) (owners : List (List ℕ)) → AreLaid o.words owners o.images → AllRecords P o → (at : Home) → IsIn o at → P (opening_record o.images at)
opening_is P o owners t all at inside =
    let image : Image = get_or o.images at.block (record { choices = []; records = [] }) in
    let of_image = All-get_or (λ (image : Image). All P image.records) o.images at.block (record { choices = []; records = [] }) inside.block all in
    let enough = t.all at.block inside.block in let few = inside.group in
    All-get_or P image.records at.group (Served []) (omega arith) of_image

pub first_stands : (o : Opened) (owners : List (List ℕ)) → AreLaid o.words owners o.images → AllRecords (HasBits (value_bits o.size.nodes)) o → AllRecords (HasNodes o.size.nodes) o → Stands (first_writer o)
first_stands o owners t bits in_cluster = record {
  wide = t.wide;
  few = omega arith;
  rest = λ at inside _. let l = t.groups at inside.block inside.group in record { version = l.version; holds = l.holds o.size.nodes (opening_is (HasBits (value_bits o.size.nodes)) o owners t bits at inside) (opening_is (HasNodes o.size.nodes) o owners t in_cluster at inside) };
  places = λ block k in_table less. let owned = t.owners_of block in_table in let is = owned.tags k less in let known = owned.known k less in omega arith;
  in_writing = tt;
  heard = λ k l none. absurd (some-ne-none l (sym none));
}

pub first_tallies : (o : Opened) (owners : List (List ℕ)) → AreLaid o.words owners o.images → Tallies owners (first_writer o)
first_tallies o owners t = record { one_each = t.one_each; placed = t.owners_of; counted = λ at inside. (t.groups at inside.block inside.group).counted }

pub opens : (S : Type 0) (o : Opened) (owners : List (List ℕ)) → AreLaid o.words owners o.images → AllRecords (HasBits (value_bits o.size.nodes)) o → AllRecords (HasNodes o.size.nodes) o → Kept {S = S} o (opening o.words [] (first_view o))
opens S o owners t bits in_cluster = let w = first_writer o in record {
  writer = 0;
  view = w;
  seat = refl;
  words = refl;
  opened = refl;
  stands = first_stands o owners t bits in_cluster;
  each_seat = alone w;
}
  where
    alone : (w : WriterView) (j : ℕ) (v : View) → get_elem? (Writer w ∷ []) j ≡ some v → AgreesWith w 0 j v
    alone w zero v e = subst (AgreesWith w 0 0) (some-injective (Writer w) v e) (refl, refl)
    alone w (suc j) v e = absurd (some-ne-none v (sym e))
