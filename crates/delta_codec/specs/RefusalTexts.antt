-- How refusals of octets are printed.
use Rattle.std.specs.Prelude.{ℕ, List, ◌++◌, codes}
use Rattle.std.specs.Fmt.{decimal}
use Rattle.delta_codec.specs.declared.refused.BadField.{BadField}
use Rattle.delta_codec.specs.declared.refused.BadField.TheVariants.{Kind, Owner, Turn, Block, Group, Body, Count, Order, Node}
use Rattle.delta_codec.specs.declared.refused.DecodeRefused.{DecodeRefused}
use Rattle.delta_codec.specs.declared.refused.DecodeRefused.TheVariants.{Short, Bad}

abbrev pub field_text : BadField → List ℕ
field_text Kind = codes "kind"
field_text Owner = codes "owner"
field_text Turn = codes "turn"
field_text Block = codes "block"
field_text Group = codes "group"
field_text Body = codes "body"
field_text Count = codes "number of rows"
field_text Order = codes "order of rows"
field_text Node = codes "node"

abbrev pub refusal_text : DecodeRefused → List ℕ
refusal_text Short = codes "the octets end before the message does"
refusal_text (Bad at why) = codes "octet " ++ decimal at ++ codes ": a bad " ++ field_text why
