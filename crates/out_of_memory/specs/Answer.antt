-- What a call answers that may lack memory at any time.
use Rattle.std.specs.Prelude.{◌≡◌, Option, Result, Ok, Err, IfSome}

-- the answer is what is said, or want of memory: `view` is what is seen of a made value, and `cause` what an error names,
-- which is nothing at want of memory
abbrev pub Answers : {A B C E : Type 0} → (view : B → A) → (cause : E → Option C) → (said : Result A C) → Result B E → Type 0
Answers view cause said (Ok made) = said ≡ Ok (view made)
Answers view cause said (Err error) = IfSome (cause error) (λ reason. said ≡ Err reason)
