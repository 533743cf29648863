-- What a splitter keeps of a part, and what its calls return and leave.
use Rattle.std.specs.Prelude.{◌≡◌, ℕ, Bool, true, false, List, drop, Option, Some, None}
use Rattle.bw_split.specs.declared.progress.Progress.{Progress}
use Rattle.bw_split.specs.declared.progress.Stage.{Stage}
use Rattle.bw_split.specs.declared.progress.Stage.TheVariants as stage
use Rattle.bw_split.specs.Prefixes.{Prefix, Holds}
use Rattle.bw_split.specs.Splitting.{closes, fed, goes_on, progress_of}

-- how contracts see a splitter: what it keeps of the part, the state after the part's bytes, and the part's stage
pub record Splitting : Type 0 where
  pub prefix : Prefix
  pub progress : Progress
  pub stage : Stage

-- it knows this part, and keeps a prefix of it
pub record Keeps (s : Splitting) (part : List ℕ) : Type 0 where
  pub prefix : Holds s.prefix part
  pub progress : s.progress ≡ progress_of part

-- this part is open, not complete
abbrev pub Begun : Splitting → List ℕ → Type 0
Begun s part = Keeps s part × (s.stage ≡ stage.Begun)

-- this part is complete
abbrev pub Stands : Splitting → List ℕ → Type 0
Stands s part = Keeps s part × (s.stage ≡ stage.Standing)

-- the script has ended, and no part is left
abbrev pub IsFinished : Splitting → Type 0
IsFinished s = s.stage ≡ stage.Finished

-- What `feed` returns and leaves, if this part was open: either the part continues with the whole piece, or after these bytes of
-- the piece one is complete.
abbrev pub Feeds : List ℕ → List ℕ → Option ℕ → Splitting → Type 0
Feeds part piece None s = (next : List ℕ) × (fed part piece ≡ goes_on next) × Begun s next
Feeds part piece (Some n) s = (next : List ℕ) × (fed part piece ≡ closes next (drop n piece)) × Stands s next

-- whether the rest is a part, as `finish` returns
abbrev pub StandsIf : Bool → Splitting → List ℕ → Type 0
StandsIf true s part = Stands s part
StandsIf false s part = IsFinished s
