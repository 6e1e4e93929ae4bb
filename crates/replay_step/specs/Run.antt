-- How a run of a trace goes on (docs/TRACE.md: one record behind the other).
use Rattle.std.specs.Prelude.{ℕ, ◌<◌, ◌≤◌, Option, Some, None}
use Rattle.replay_step.specs.declared.Run.{Run}

-- from the place `at` of an input of `end` bytes: further on, and not past the end; or ended
abbrev pub Onward : ℕ → ℕ → Option Run → Type 0
Onward at end (Some r) = (at < r.at) × (r.at ≤ end)
Onward at end None = Unit {0}
