-- The parts that a piece of a script closes, answered one after the other.
use Rattle.std.proofs.Common.{◌≡◌, ℕ, ◌-◌, ◌<◌, ◌≤◌, List, [], ◌∷◌, ◌++◌, length, take, drop, Option, None, Some, sym, true, arith, length-drop}
use Rattle.std.proofs.lemmas.List.{take_all}
use Rattle.bw_split.specs.Splitting.{part_text, closes, fed, goes_on, texts_from}
use Rattle.bw_split.proofs.PieceTexts.{texts_closed, texts_on}
use Rattle.bw_model.specs.declared.reply.Reply.{Reply}
use Rattle.bw_shell.specs.Sessions.{HandsOver, HasEnded, Ran}
use Rattle.bw_shell.specs.Run.{MayAnswer}
use Rattle.bw_shell.specs.States.{State}
use Rattle.bw_shell.specs.declared.running.OnError.{OnError}
use Rattle.bw_shell.specs.declared.running.RunEnd.{RunEnd}
use Rattle.bw_shell.proofs.Sessions.{ended_part, ended_same_parts, ran_part, ran_same_parts, ran_to_end, ran_twice, rest_same_parts, starts}

-- what is left of a piece after n bytes, as the code cuts it

pub rest_left : (n : ℕ) (rest : List ℕ) → take (length rest - n) (drop n rest) ≡ drop n rest
rest_left n rest = take_all (length rest - n) (drop n rest) (omega (arith, length-drop n rest))

pub rest_shorter : (n : ℕ) (rest : List ℕ) → 0 < n → n ≤ length rest → length (take (length rest - n) (drop n rest)) < length rest
rest_shorter n rest some fits = rw (rest_left n rest) (omega (arith, length-drop n rest))

module _ (on_error : OnError) (part piece : List ℕ) (state : State) (old : Option (List ℕ)) where
  -- so far, with this left of the piece after the part begun
  abbrev pub CameTo : Option (List ℕ) → List ℕ → List ℕ → State → Type 0
  CameTo now rest next mid = Ran on_error state (λ more. texts_from part (piece ++ more)) old now (λ more. texts_from next (rest ++ more)) mid

  pub at_piece : CameTo old piece part state
  at_piece = starts on_error state (λ more. texts_from part (piece ++ more)) old

  module _ (now : Option (List ℕ)) (rest next : List ℕ) (mid : State) (came : CameTo now rest next mid) where
    pub piece_over : (begun : List ℕ) → fed next rest ≡ goes_on begun → Ran on_error state (λ more. texts_from part (piece ++ more)) old now (texts_from begun) mid
    piece_over begun is = rest_same_parts on_error state mid (λ more. texts_from part (piece ++ more)) (λ more. texts_from next (rest ++ more)) (texts_from begun) old now (λ more. texts_on next rest begun is more) came

    module _ (text left : List ℕ) (is : fed next rest ≡ closes text left) (new : Option (List ℕ)) (reply : Reply) (after : State) (answers : MayAnswer mid true text reply after) where
      pub part_answered : HandsOver on_error reply now new None → CameTo new left [] after
      part_answered hands =
          ran_twice on_error state mid after (λ more. texts_from part (piece ++ more)) (λ more. texts_from next (rest ++ more)) (λ more. texts_from [] (left ++ more)) old now new came
          (ran_same_parts on_error mid after (λ more. part_text text true ∷ texts_from [] (left ++ more)) (λ more. texts_from next (rest ++ more)) (λ more. texts_from [] (left ++ more)) now new
          (λ more. sym (texts_closed next rest text left is more))
          (ran_part on_error text (λ more. texts_from [] (left ++ more)) mid after reply now new answers hands))

      pub part_ended : (end : RunEnd) → HandsOver on_error reply now new (Some end) → HasEnded on_error state (λ more. texts_from part (piece ++ more)) old new end after
      part_ended end hands =
          ran_to_end on_error state mid after (λ more. texts_from part (piece ++ more)) (λ more. texts_from next (rest ++ more)) old now new end came
          (ended_same_parts on_error mid after (λ more. part_text text true ∷ texts_from [] (left ++ more)) (λ more. texts_from next (rest ++ more)) now new end
          (λ more. sym (texts_closed next rest text left is more))
          (ended_part on_error text (λ more. texts_from [] (left ++ more)) mid after reply now new answers end hands))
