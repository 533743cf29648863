-- Words that can't be read are as words that are refused.
use Rattle.std.proofs.Common.{ℕ, List, [], ◌∷◌, refl}
use Rattle.std.specs.Prelude.{Option, codes}
use Rattle.bw_program.specs.Answers.{Follows}
use Rattle.bw_program.specs.Words.{Text, asked_by}
use Rattle.bw_program.specs.declared.ending.Ending.TheVariants.{NotAsked}
use Rattle.bw_program.specs.declared.request.WordsFault.{WordsFault}
use Rattle.bw_program.specs.declared.request.WordsFault.TheVariants.{Memory, Usage}

abbrev pub refused_words : List Text
refused_words = codes "" ∷ codes "a" ∷ codes "a" ∷ []

pub nothing_done : (fault : WordsFault) (given : Option (List ℕ)) → Follows (asked_by refused_words) given given (NotAsked fault)
nothing_done Usage given = (refl, refl)
nothing_done Memory given = refl
