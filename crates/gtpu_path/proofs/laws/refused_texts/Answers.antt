use Rattle.gtpu_path.proofs.Digits.{digit_exactly, never_memory, odd_exactly}
use Rattle.gtpu_path.proofs.laws.refused_texts.Goals as goal

pub returns-clause-odd : goal.returns-clause-odd
returns-clause-odd c = odd_exactly

pub returns-clause-digit : goal.returns-clause-digit
returns-clause-digit c = digit_exactly

pub returns-clause-no_other : goal.returns-clause-no_other
returns-clause-no_other c = never_memory
