-- A whole script that is answered over what is there.
use Rattle.std.proofs.Common.{ℕ, List, [], ◌++◌, Some, subst, append-nil}
use Rattle.std.specs.Io.KnownBytes.{Appends}
use Rattle.bw_split.specs.Splitting.{texts_from}
use Rattle.bw_split.proofs.HaveParts.{have_parts}
use Rattle.bw_split.proofs.PartTexts.{parts_given}
use Rattle.bw_shell.specs.Sessions.{AnswersRest, HasEnded, Ran}
use Rattle.bw_shell.specs.Conversations.{Responds}
use Rattle.bw_shell.specs.Run.{SessionOver}
use Rattle.bw_shell.specs.States.{State}
use Rattle.bw_shell.specs.declared.reading.ScriptEnd.TheVariants.{Reached}
use Rattle.bw_shell.specs.declared.running.OnError.{OnError}
use Rattle.bw_shell.specs.declared.running.RunEnd.{RunEnd}
use Rattle.bw_shell.proofs.Texts.{appends_twice}

module _ (on_error : OnError) (script : List ℕ) (first last : State) (old new : List ℕ) (end : RunEnd) where
  -- a session over the texts of the script
  pub responds : (bytes : List ℕ) → SessionOver on_error Reached first (texts_from [] script) end bytes last → Appends (Some old) (Some new) bytes → Responds on_error script first old new end last
  responds bytes session grown =
      let has = have_parts script in
      (has.0, has.1, (bytes, subst (λ parts. SessionOver on_error Reached first parts end bytes last) (parts_given script has.0 has.1) session, grown))

  over : (bytes : List ℕ) → SessionOver on_error Reached first (texts_from [] (script ++ [])) end bytes last → Appends (Some old) (Some new) bytes → Responds on_error script first old new end last
  over bytes session grown = responds bytes (subst (λ s. SessionOver on_error Reached first (texts_from [] s) end bytes last) (append-nil script) session) grown

  -- the pieces were answered, and then the rest
  pub answered : (mid : State) (now part : List ℕ) → Ran on_error first (λ more. texts_from [] (script ++ more)) (Some old) (Some now) (texts_from part) mid
      → AnswersRest on_error part mid (Some now) (Some new) end last → Responds on_error script first old new end last
  answered mid now part ran rest =
      over (ran.written ++ rest.0) (ran.goes_on Reached [] end rest.0 last rest.1) (appends_twice (Some old) (Some now) (Some new) ran.written rest.0 ran.grown rest.2)

  -- it ended before
  pub ended_early : HasEnded on_error first (λ more. texts_from [] (script ++ more)) (Some old) (Some new) end last → Responds on_error script first old new end last
  ended_early ended = over ended.written (ended.session Reached []) ended.grown
