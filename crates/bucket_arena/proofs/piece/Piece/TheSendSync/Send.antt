use denote.RattleType.{RattleType}
use denote.Param.Send.{IsSend}
use Rattle.bucket_arena.proofs.Crossing.{piece_send}
use Rattle.bucket_arena.specs.contracts.piece.Piece.{the_row}

pub send : (R : RattleType) → IsSend R → IsSend (the_row R)
send = piece_send
