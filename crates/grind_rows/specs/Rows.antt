-- Rows of flows, keys and packets, as octets: the fields are joined by commas, and each row ends with one line feed.
use Rattle.std.specs.Prelude.{ℕ, List, [], ◌∷◌, ◌++◌, codes}
use Rattle.std.specs.Fmt.{decimal}
use Rattle.flow_types.specs.Text.{address_text}
use Rattle.flow_types.specs.declared.key.FlowKey.{FlowKey}
use Rattle.flow_types.specs.declared.record.Flow.{Flow}
use Rattle.line_text.specs.Line.{line_of}

-- a comma and a number
abbrev pub number_words : ℕ → List (List ℕ)
number_words number = codes "," ∷ decimal number ∷ []

-- a comma and an address
abbrev pub address_words : ℕ → List (List ℕ)
address_words address = codes "," ∷ address_text address ∷ []

-- a key's five fields
abbrev pub key_words : FlowKey → List (List ℕ)
key_words key =
    address_words key.source ++ address_words key.destination ++ number_words key.source_port ++ number_words key.destination_port
    ++ number_words key.protocol

-- a flow's eight fields
abbrev pub flow_words : Flow → List (List ℕ)
flow_words flow = key_words flow.key ++ number_words flow.node ++ number_words flow.info.teid ++ address_words flow.info.base

-- the row of this kind about a flow
unfoldable pub flow_row : (kind : List ℕ) → Flow → List ℕ
flow_row kind flow = line_of ((kind ∷ []) ++ flow_words flow)

-- the row that deletes a key
unfoldable pub del_row : FlowKey → List ℕ
del_row key = line_of ((codes "del" ∷ []) ++ key_words key)

-- the row of a packet
unfoldable pub packet_text : (ingress : ℕ) → FlowKey → List ℕ
packet_text ingress key = line_of ((codes "packet" ∷ []) ++ number_words ingress ++ key_words key)
