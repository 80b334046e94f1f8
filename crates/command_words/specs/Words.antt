-- What the words after the program's name ask for.
use Rattle.std.specs.Prelude.{ℕ, ◌≤◌, true, nat_le, if◌then◌else◌, List, [], ◌∷◌, codes, Option, Some, None, option_and_then}
use Rattle.std.specs.Str.{bytes_eq}
use Rattle.clap.specs.Faults.{fault_of}
use Rattle.clap.specs.Simple.{App, matches_of, new_app, new_rule, on_top, with_rule}
use Rattle.clap.specs.Walk.{Row, Rule, Text, first_of, is_empty}
use Rattle.clap.specs.declared.builder.action.ArgAction.TheVariants as action
use Rattle.flow_types.specs.Text.{number_value}
use Rattle.command_words.specs.declared.command.Command.{Command}
use Rattle.command_words.specs.declared.command.Task.{Task}
use Rattle.command_words.specs.declared.command.Task.TheVariants.{Replay, Storm, Grind}

-- the one word that stands by itself, which has to be there
abbrev pub task_rule : Rule
task_rule = record (new_rule (codes "MODE")) { required = true }

-- an option `--name VALUE`, or `--name=VALUE`, and its value where it is left out
abbrev pub option_rule : (name default : Text) → Rule
option_rule name default = record (new_rule name) { long = Some name; action = Some action.Set; defaults = default ∷ [] }

-- the program's name alone: its words begin after it, and `--help` is no option of its
abbrev pub bare : App
bare = on_top (λ top. record top { no_binary_name = true; disable_help_flag = true }) (new_app (codes "scalebricks"))

-- the program's command line, as one of clap's simple commands: `MODE` and three options
unfoldable pub program : App
program =
    with_rule (with_rule (with_rule (with_rule bare
    task_rule)
    (option_rule (codes "workers") (codes "4")))
    (option_rule (codes "lanes") (codes "2")))
    (option_rule (codes "seed") (codes "1"))

-- the task of this name
abbrev pub task_of : Text → Option Task
task_of name =
    if bytes_eq name (codes "replay") then Some Replay
    else if bytes_eq name (codes "storm") then Some Storm
    else if bytes_eq name (codes "grind") then Some Grind
    else None

-- the task that the words name
abbrev pub task_in : List Row → Option Task
task_in rows = option_and_then task_of (first_of (codes "MODE") rows)

-- the number from `low` to `high` that a text writes, in decimal digits without sign or leading zero
abbrev pub number_between : (low high : ℕ) → Text → Option ℕ
number_between low high text = option_and_then (λ number. if nat_le low number then Some number else None) (number_value high text)

-- the number from `low` to `high` that the option of this name has
abbrev pub number_in : (low high : ℕ) → (name : Text) → List Row → Option ℕ
number_in low high name rows = option_and_then (number_between low high) (first_of name rows)

-- a command, where each of its parts is said
abbrev pub all_said : Option Task → (workers lanes seed : Option ℕ) → Option Command
all_said (Some task) (Some workers) (Some lanes) (Some seed) = Some (record { task = task; workers = workers; lanes = lanes; seed = seed })
all_said _ _ _ _ = None

-- the command that the values of the words say
unfoldable pub command_of : List Row → Option Command
command_of rows =
    all_said (task_in rows)
    (number_in 1 64 (codes "workers") rows)
    (number_in 1 8 (codes "lanes") rows)
    (number_in 0 4294967295 (codes "seed") rows)

-- the options of a command are in their ranges
pub record IsInRange (command : Command) : Type 0 where
  pub some_worker : 1 ≤ command.workers
  pub few_workers : command.workers ≤ 64
  pub some_lane : 1 ≤ command.lanes
  pub few_lanes : command.lanes ≤ 8
  pub short_seed : command.seed ≤ 4294967295

-- what the words ask for, where they are a command: clap finds no fault in them, and their values say one
unfoldable pub meant : List Text → Option Command
meant words = if is_empty (fault_of program words) then command_of (matches_of program words) else None
