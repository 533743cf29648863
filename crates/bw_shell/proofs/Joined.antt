-- Two scripts, one after the other.
use Rattle.std.proofs.Common.{◌≡◌, ◌≢◌, ◌⊎◌, ℕ, inl, inr, Bool, true, false, if◌then◌else◌, List, [], ◌∷◌, ◌++◌, Some, refl, sym, ap, ◌∙◌, subst, append_assoc}
use Rattle.std.specs.Io.KnownBytes.{Appends}
use Rattle.bw_split.specs.Splitting.{PartText, part_text, cuts, is_blank_part, texts_from}
use Rattle.bw_split.proofs.PartTexts.{parts_given}
use Rattle.bw_model.specs.ReplyText.{reply_text}
use Rattle.bw_shell.specs.Conversations.{EndsAtCut, Responds, RespondsInTurn, behind_cuts}
use Rattle.bw_shell.specs.Run.{Either, IsOver, SessionOver, stops}
use Rattle.bw_shell.specs.States.{State}
use Rattle.bw_shell.specs.declared.reading.ScriptEnd.TheVariants.{Reached}
use Rattle.bw_shell.specs.declared.running.OnError.{OnError}
use Rattle.bw_shell.specs.declared.running.RunEnd.{RunEnd}
use Rattle.bw_shell.specs.declared.running.RunEnd.TheVariants as ends
use Rattle.bw_shell.proofs.Conversed.{responds}
use Rattle.bw_shell.proofs.Texts.{appends_twice}

-- The parts of both are those of the one and then those of the other.

module _ (more : List ℕ) where
  abbrev TellsBoth : List ℕ → List ℕ → Type 0
  TellsBoth part script = behind_cuts part script ≡ [] → texts_from part (script ++ more) ≡ texts_from part script ++ texts_from [] more

  at_byte : (cut blank : Bool) (part script : List ℕ) (b : ℕ) → (if cut then behind_cuts [] script else behind_cuts (part ++ b ∷ []) script) ≡ [] → TellsBoth [] script → TellsBoth (part ++ b ∷ []) script
      → (if cut then (if blank then texts_from [] (script ++ more) else part_text part true ∷ texts_from [] (script ++ more)) else texts_from (part ++ b ∷ []) (script ++ more))
      ≡ (if cut then (if blank then texts_from [] script else part_text part true ∷ texts_from [] script) else texts_from (part ++ b ∷ []) script) ++ texts_from [] more
  at_byte true true part script b none anew on = anew none
  at_byte true false part script b none anew on = ap (λ l. part_text part true ∷ l) (anew none)
  at_byte false blank part script b none anew on = on none

  both_told : (script part : List ℕ) → TellsBoth part script
  unfolding texts_from behind_cuts
  both_told [] part none = subst (λ p. texts_from p more ≡ texts_from p [] ++ texts_from [] more) (sym none) refl
  both_told (b ∷ script) part none = at_byte (cuts part b) (is_blank_part part) part script b none (both_told script []) (both_told script (part ++ b ∷ []))

module _ (on_error : OnError) (more : List PartText) (end : RunEnd) (last : State) where
  abbrev Over : State → List PartText → RunEnd → List ℕ → State → Type 0
  Over state parts how bytes final = SessionOver on_error Reached state parts how bytes final

  -- what follows a reply that was written whole
  abbrev Next : Bool → State → List PartText → RunEnd → List ℕ → State → Type 0
  Next stop after parts how rest final = Either stop (IsOver ends.Stopped how rest after final) (Over after parts how rest final)

  -- the first is done, and the other goes on

  module _ (mid : State) (also : List ℕ) where
    then_other : (stop : Bool) (after : State) (parts : List PartText) (rest : List ℕ) → (Over after parts ends.Done rest mid → Over after (parts ++ more) end (rest ++ also) last)
        → Next stop after parts ends.Done rest mid → Next stop after (parts ++ more) end (rest ++ also) last
    then_other true after parts rest deeper is = absurd (let e = is.0 in cc)
    then_other false after parts rest deeper session = deeper session

    both_over : Over mid more end also last → (parts : List PartText) (state : State) (bytes : List ℕ) → Over state parts ends.Done bytes mid → Over state (parts ++ more) end (bytes ++ also) last
    both_over next [] state bytes is =
        subst (λ b. Over state more end (b ++ also) last) (sym is.1) (subst (λ s. Over s more end also last) is.2 next)
    both_over next (part ∷ parts) state bytes session = (
      session.0,
      session.1,
      session.2,
      elim session.3 [
        | inl failed ↦ absurd (let e = failed.0 in cc)
        | inr on ↦ inr (
          on.0 ++ also,
          ap (λ l. l ++ also) on.1 ∙ append_assoc (reply_text session.0) on.0 also,
          then_other (stops on_error session.0) session.1 parts on.0 (both_over next parts session.1 on.0) on.2,
        )
      ],
    )

  -- the first ended at one of its parts

  still_so : (stop : Bool) (after : State) (parts : List PartText) (rest : List ℕ) → (Over after parts end rest last → Over after (parts ++ more) end rest last) → Next stop after parts end rest last → Next stop after (parts ++ more) end rest last
  still_so true after parts rest deeper is = is
  still_so false after parts rest deeper session = deeper session

  one_over : end ≢ ends.Done → (parts : List PartText) (state : State) (bytes : List ℕ) → Over state parts end bytes last → Over state (parts ++ more) end bytes last
  one_over early [] state bytes is = absurd (early is.0)
  one_over early (part ∷ parts) state bytes session = (
    session.0,
    session.1,
    session.2,
    elim session.3 [
      | inl failed ↦ inl failed
      | inr on ↦ inr (on.0, on.1, still_so (stops on_error session.0) session.1 parts on.0 (one_over early parts session.1 on.0) on.2)
    ],
  )

  -- a session over the parts of both is one of these

  abbrev EitherOver : (List ℕ → RunEnd → State → Type 0) → List ℕ → Type 0
  EitherOver first bytes =
      ((end ≢ ends.Done) × first bytes end last)
      ⊎ ((mid : State) × (front also : List ℕ) × (bytes ≡ front ++ also) × first front ends.Done mid × Over mid more end also last)

  by_stop : (stop : Bool) (after : State) (parts : List PartText) (rest : List ℕ) → (Over after (parts ++ more) end rest last → EitherOver (λ bytes how final. Over after parts how bytes final) rest)
      → Next stop after (parts ++ more) end rest last → EitherOver (λ bytes how final. Next stop after parts how bytes final) rest
  by_stop true after parts rest deeper is = inl ((λ done. let e = is.0 in cc), is)
  by_stop false after parts rest deeper session = deeper session

  split_over : (parts : List PartText) (state : State) (bytes : List ℕ) → Over state (parts ++ more) end bytes last → EitherOver (λ bytes how final. Over state parts how bytes final) bytes
  split_over [] state bytes session = inr (state, [], bytes, refl, (refl, refl, refl), session)
  split_over (part ∷ parts) state bytes session =
      elim session.3 [
        | inl failed ↦ inl ((λ done. let e = failed.0 in cc), (session.0, session.1, session.2, inl failed))
        | inr on ↦ elim (by_stop (stops on_error session.0) session.1 parts on.0 (split_over parts session.1 on.0) on.2) [
          | inl one ↦ inl (one.0, (session.0, session.1, session.2, inr (on.0, on.1, one.1)))
          | inr two ↦ inr (
            two.0,
            reply_text session.0 ++ two.1,
            two.2,
            on.1 ∙ ap (λ l. reply_text session.0 ++ l) two.3 ∙ sym (append_assoc (reply_text session.0) two.1 two.2),
            (session.0, session.1, session.2, inr (two.1, refl, two.4)),
            two.5,
          )
        ]
      ]

-- the same of whole scripts

module _ (on_error : OnError) where
  record ToldOver (script : List ℕ) (state : State) (old new : List ℕ) (end : RunEnd) (last : State) : Type 0 where
    pub bytes : List ℕ
    pub session : SessionOver on_error Reached state (texts_from [] script) end bytes last
    pub grown : Appends (Some old) (Some new) bytes

  of_responds : (script : List ℕ) (state : State) (old new : List ℕ) (end : RunEnd) (last : State) → Responds on_error script state old new end last → ToldOver script state old new end last
  of_responds script state old new end last r = record {
    bytes = r.2.0;
    session = subst (λ parts. SessionOver on_error Reached state parts end r.2.0 last) (sym (parts_given script r.0 r.1)) r.2.1;
    grown = r.2.2;
  }

  module _ (script other : List ℕ) (state : State) (old new : List ℕ) (end : RunEnd) (last : State) (cut : EndsAtCut script) where
    abbrev Both : List PartText → List ℕ → Type 0
    Both parts bytes = SessionOver on_error Reached state parts end bytes last

    told_both : texts_from [] (script ++ other) ≡ texts_from [] script ++ texts_from [] other
    told_both = both_told other script [] cut

    pub joined : RespondsInTurn on_error script other state old new end last → Responds on_error (script ++ other) state old new end last
    joined (inl one) =
        let a = of_responds script state old new end last one.1 in
        responds on_error (script ++ other) state last old new end a.bytes (subst (λ parts. Both parts a.bytes) (sym told_both) (one_over on_error (texts_from [] other) end last one.0 (texts_from [] script) state a.bytes a.session)) a.grown
    joined (inr two) =
        let a = of_responds script state old two.1 ends.Done two.0 two.2 in
        let b = of_responds other two.0 two.1 new end last two.3 in
        responds on_error (script ++ other) state last old new end (a.bytes ++ b.bytes)
        (subst (λ parts. Both parts (a.bytes ++ b.bytes)) (sym told_both) (both_over on_error (texts_from [] other) end last two.0 b.bytes b.session (texts_from [] script) state a.bytes a.session))
        (appends_twice (Some old) (Some two.1) (Some new) a.bytes b.bytes a.grown b.grown)

    pub split : Responds on_error (script ++ other) state old new end last → RespondsInTurn on_error script other state old new end last
    split r =
        let whole = of_responds (script ++ other) state old new end last r in
        elim (split_over on_error (texts_from [] other) end last (texts_from [] script) state whole.bytes (subst (λ parts. Both parts whole.bytes) told_both whole.session)) [
          | inl one ↦ inl (one.0, responds on_error script state last old new end whole.bytes one.1 whole.grown)
          | inr two ↦ inr (
            two.0,
            old ++ two.1,
            responds on_error script state two.0 old (old ++ two.1) ends.Done two.1 two.4 refl,
            responds on_error other two.0 last (old ++ two.1) new end two.2 two.5 (whole.grown ∙ ap (λ l. old ++ l) two.3 ∙ sym (append_assoc old two.1 two.2)),
          )
        ]
