-- The tokens of a text up to a place, and that they are the only ones.
use Rattle.std.proofs.Common.{◌≡◌, ◌≢◌, ℕ, ◌+◌, ◌-◌, ◌<◌, ◌≤◌, List, [], ◌∷◌, ◌++◌, length, take, drop, refl, sym, ap, inl, inr, ◌⊎◌, ◌∙◌, subst, arith, Result, append_assoc, append-nil, length-drop, length-take, drop-drop}
use Rattle.std.specs.List.{All}
use Rattle.std.proofs.Math.Nat.{add-sub_cancel_left}
use Rattle.std.proofs.Math.Seq.{drop-append_seam}
use Rattle.std.proofs.lemmas.List.{drop_all, take-append-drop, take_all}
use Rattle.std.proofs.lemmas.List.Elements.{All-nil, All-push}
use Rattle.std.proofs.lemmas.Result.{IfOk-weaker}
use Rattle.std.specs.Result.{IfOk}
use Rattle.bw_lex.specs.declared.token.Token.{Token}
use Rattle.bw_lex.specs.declared.token.TokenKind.{TokenKind}
use Rattle.bw_lex.specs.declared.token.TokenKind.TheVariants as k
use Rattle.bw_lex.specs.declared.piece.Piece.{Piece}
use Rattle.bw_lex.specs.declared.piece.Piece.TheVariants as p
use Rattle.bw_lex.specs.Pieces.{first_piece}
use Rattle.bw_lex.specs.Spellings.{IsSpelled, IsTokenOf}
use Rattle.bw_lex.specs.Tokens.{AreTokens, AreTokensFrom, AreTokensToBad, BeginsWith, HasBadToken, IsBad, IsNext, Shape, done, past_separator, past_token, separator, token}
use Rattle.bw_lex.proofs.Longest.{next_piece, piece_next, piece_of}

pub drop_none : (text : List ℕ) → drop 0 text ≡ text
drop_none [] = refl
drop_none (b ∷ text) = refl

-- A piece has one shape and one length.

pub record SamePiece (s t : Shape) (m n : ℕ) : Type 0 where
  pub shapes : s ≡ t
  pub sizes : m ≡ n

same_piece : (s t : Shape) (m n : ℕ) → piece_of s m ≡ piece_of t n → SamePiece s t m n
same_piece separator separator m n e = record { shapes = refl; sizes = cc }
same_piece separator (token kind) m n e = cc
same_piece (token kind) separator m n e = cc
same_piece (token kind) (token other) m n e =
    let kinds : kind ≡ other = cc in
    record { shapes = ap token kinds; sizes = cc }

not_bad : (shape : Shape) (n : ℕ) → piece_of shape n ≡ p.Bad → ⊥
not_bad separator n e = cc
not_bad (token kind) n e = cc

-- what is next, of so many bytes
pub record NextAt (text : List ℕ) (shape : Shape) (n : ℕ) : Type 0 where
  pub next : IsNext shape (take n text) (drop n text)
  pub size : length (take n text) ≡ n

pub next_at : (text : List ℕ) (shape : Shape) (n : ℕ) → first_piece text ≡ piece_of shape n → NextAt text shape n
next_at text shape n first =
    let found = next_piece text (piece_of shape n) (sym first) (not_bad shape n) in
    let same = same_piece shape found.shape n found.len found.piece_is in
    record {
      next = subst (λ m. IsNext shape (take m text) (drop m text)) (sym same.sizes) (subst (λ s. IsNext s (take found.len text) (drop found.len text)) (sym same.shapes) found.next);
      size = subst (λ m. length (take m text) ≡ m) (sym same.sizes) found.size;
    }

-- The text begins with its first piece.
begins_with_first : (text : List ℕ) (piece : Piece) → piece ≡ first_piece text → BeginsWith text piece
begins_with_first text (p.Separator n) is = (next_at text separator n (sym is)).next
begins_with_first text (p.Token kind n) is = (next_at text (token kind) n (sym is)).next
begins_with_first text p.Bad is = λ shape bytes left whole next. not_bad shape (length bytes) (sym (piece_next shape bytes left next) ∙ ap first_piece (sym whole) ∙ sym is)

pub begins : {E : Type 0} (text : List ℕ) (r : Result Piece E) → IfOk r (λ piece. piece ≡ first_piece text) → IfOk r (BeginsWith text)
begins text r = IfOk-weaker r (λ piece. piece ≡ first_piece text) (BeginsWith text) (begins_with_first text)

-- The tokens up to a place.

pub record Progress (text : List ℕ) (tokens : List Token) (at : ℕ) : Type 0 where
  pub within : at ≤ length text
  pub goes_on : (rest : List ℕ) (more : List Token) → AreTokensFrom at (drop at text) rest more → AreTokensFrom 0 text rest (tokens ++ more)
  pub each : All (IsTokenOf text) tokens

pub start : (text : List ℕ) → Progress text [] 0
start text = record { within = omega arith; goes_on = λ rest more d. subst (λ t. AreTokensFrom 0 t rest more) (drop_none text) d; each = All-nil (IsTokenOf text) }

-- what is left from a place on, as the code cuts it
pub rest_is : (at : ℕ) (text : List ℕ) (piece : Piece) → piece ≡ first_piece (take (length text - at) (drop at text)) → first_piece (drop at text) ≡ piece
rest_is at text piece is = sym (is ∙ ap first_piece (take_all (length text - at) (drop at text) (omega (arith, length-drop at text))))

pub spelled_next : (kind : TokenKind) (bytes left : List ℕ) → IsNext (token kind) bytes left → IsSpelled kind bytes
spelled_next k.Word bytes left next = (next.0.fits, next.1)
spelled_next k.Number bytes left next = next.0.fits.0
spelled_next k.Text bytes left next = next.1
spelled_next (k.Symbol symbol) bytes left next = next.0.fits

abbrev pub token_at : TokenKind → ℕ → ℕ → Token
token_at kind at n = record { kind = kind; span = record { start = at; end = at + n } }

module _ (text : List ℕ) (tokens : List Token) (at n : ℕ) (s : Progress text tokens at) where
  onward : (shape : Shape) → NextAt (drop at text) shape n → (rest : List ℕ) (more : List Token) → AreTokensFrom (at + n) (drop (at + n) text) rest more → AreTokensFrom (at + length (take n (drop at text))) (drop n (drop at text)) rest more
  onward shape next rest more d =
      subst (λ l. AreTokensFrom (at + length (take n (drop at text))) l rest more) (sym (drop-drop n at text))
      (subst (λ m. AreTokensFrom (at + m) (drop (at + n) text) rest more) (sym next.size) d)

  next_within : (shape : Shape) → NextAt (drop at text) shape n → at + n ≤ length text
  next_within shape next = omega (arith, s.within, next.size, length-take n (drop at text), length-drop at text)

  pub over_separator : first_piece (drop at text) ≡ p.Separator n → Progress text tokens (at + n)
  over_separator first =
      let next = next_at (drop at text) separator n first in
      record {
        within = next_within separator next;
        goes_on = λ rest more d. s.goes_on rest more
            (past_separator (take n (drop at text)) (drop n (drop at text)) (sym (take-append-drop n (drop at text))) next.next (onward separator next rest more d));
        each = s.each;
      }

  pub over_token : (kind : TokenKind) → first_piece (drop at text) ≡ p.Token kind n → Progress text (tokens ++ token_at kind at n ∷ []) (at + n)
  over_token kind first =
      let next = next_at (drop at text) (token kind) n first in
      let fits = next_within (token kind) next in
      record {
        within = fits;
        goes_on = λ rest more d. subst (AreTokensFrom 0 text rest) (sym (append_assoc tokens (token_at kind at n ∷ []) more)) (s.goes_on rest (token_at kind at n ∷ more)
            (subst (λ m. AreTokensFrom at (drop at text) rest (token_at kind at m ∷ more)) next.size
            (past_token kind (take n (drop at text)) (drop n (drop at text)) (sym (take-append-drop n (drop at text))) next.next (onward (token kind) next rest more d))));
        each = All-push (IsTokenOf text) tokens _ s.each (record {
          ordered = omega arith;
          within = fits;
          spelled = rw (add-sub_cancel_left at n) (spelled_next kind _ _ next.next);
        });
      }

-- the end is reached
pub finished : (text : List ℕ) (tokens : List Token) (at : ℕ) → Progress text tokens at → length text ≤ at → AreTokens text tokens
finished text tokens at s over = subst (AreTokensFrom 0 text []) (append-nil tokens) (s.goes_on [] [] (done (drop_all at text over)))

-- what comes next is bad
pub bad_from : (rest : List ℕ) → rest ≢ [] → first_piece rest ≡ p.Bad → IsBad rest
bad_from rest some bad =
    record { some = some; none = λ shape bytes left is next. not_bad shape (length bytes) (sym (piece_next shape bytes left next) ∙ sym (ap first_piece is) ∙ bad) }

pub stopped : (text : List ℕ) (tokens : List Token) (at : ℕ) → Progress text tokens at → at < length text → first_piece (drop at text) ≡ p.Bad → AreTokensToBad text tokens
stopped text tokens at s some bad =
    record {
      rest = drop at text;
      is_bad = bad_from (drop at text) (λ e. omega (arith, ap length e, length-drop at text)) bad;
      tokens_are = subst (AreTokensFrom 0 text (drop at text)) (append-nil tokens) (s.goes_on (drop at text) [] (done refl));
    }

-- There is one reading.

pub record SameNext (s t : Shape) (m n : ℕ) (x y : List ℕ) : Type 0 where
  pub shapes : s ≡ t
  pub sizes : m ≡ n
  pub lefts : x ≡ y

same_next : (text : List ℕ) (s : Shape) (a x : List ℕ) (t : Shape) (b y : List ℕ) → text ≡ a ++ x → IsNext s a x → text ≡ b ++ y → IsNext t b y → SameNext s t (length a) (length b) x y
same_next text s a x t b y e f g h =
    let same = same_piece s t (length a) (length b) (sym (piece_next s a x f) ∙ ap first_piece (sym e ∙ g) ∙ piece_next t b y h) in
    record {
      shapes = same.shapes;
      sizes = same.sizes;
      lefts = sym (drop-append_seam a x) ∙ (λ i. drop (same.sizes i) ((sym e ∙ g) i)) ∙ drop-append_seam b y;
    }

pub nothing_next : (shape : Shape) (bytes left : List ℕ) → [] ≡ bytes ++ left → IsNext shape bytes left → ⊥
nothing_next shape bytes left is next = not_bad shape (length bytes) (sym (piece_next shape bytes left next) ∙ ap first_piece (sym is))

no_token : (kind : TokenKind) → separator ≡ token kind → ⊥
no_token kind e = cc

same_kind : (a b : TokenKind) → token a ≡ token b → a ≡ b
same_kind a b e = cc

moved : (at m n : ℕ) (x y rest : List ℕ) (tokens : List Token) → m ≡ n → x ≡ y → AreTokensFrom (at + n) y rest tokens → AreTokensFrom (at + m) x rest tokens
moved at m n x y rest tokens e f d =
    subst (λ l. AreTokensFrom (at + m) l rest tokens) (sym f) (subst (λ u. AreTokensFrom (at + u) y rest tokens) (sym e) d)

-- nothing that is left may go on
abbrev pub Stops : List ℕ → Type 0
Stops rest = (shape : Shape) (bytes left : List ℕ) → rest ≡ bytes ++ left → IsNext shape bytes left → ⊥

pub record SameUpTo (a b : List Token) (rest other : List ℕ) : Type 0 where
  pub tokens : a ≡ b
  pub rests : rest ≡ other

same_from : (at : ℕ) (text rest other : List ℕ) (a b : List Token) → Stops rest → Stops other → AreTokensFrom at text rest a → AreTokensFrom at text other b → SameUpTo a b rest other
same_from at text rest other a b stop end (done e) (done f) = record { tokens = refl; rests = sym e ∙ f }
same_from at text rest other a b stop end (done e) (past_separator q y g h c) = absurd (stop separator q y (sym e ∙ g) h)
same_from at text rest other a b stop end (done e) (past_token kind q y g h c) = absurd (stop (token kind) q y (sym e ∙ g) h)
same_from at text rest other a b stop end (past_separator p x e f d) (done g) = absurd (end separator p x (sym g ∙ e) f)
same_from at text rest other a b stop end (past_token kind p x e f d) (done g) = absurd (end (token kind) p x (sym g ∙ e) f)
same_from at text rest other a b stop end (past_separator p x e f d) (past_token kind q y g h c) = absurd (no_token kind (same_next text separator p x (token kind) q y e f g h).shapes)
same_from at text rest other a b stop end (past_token kind p x e f d) (past_separator q y g h c) = absurd (no_token kind (same_next text separator q y (token kind) p x g h e f).shapes)
same_from at text rest other a b stop end (past_separator p x e f d) (past_separator q y g h c) =
    let same = same_next text separator p x separator q y e f g h in
    same_from (at + length p) x rest other a b stop end d (moved at (length p) (length q) x y other b same.sizes same.lefts c)
same_from at text rest other a b stop end (past_token {tokens = us} kind p x e f d) (past_token {tokens = vs} second q y g h c) =
    let same = same_next text (token kind) p x (token second) q y e f g h in
    let kinds = same_kind kind second same.shapes in
    let deeper = same_from (at + length p) x rest other us vs stop end d (moved at (length p) (length q) x y other vs same.sizes same.lefts c) in
    record { tokens = λ i. token_at (kinds i) at (same.sizes i) ∷ deeper.tokens i; rests = deeper.rests }

pub same_tokens : (text : List ℕ) (a b : List Token) → AreTokens text a → AreTokens text b → a ≡ b
same_tokens text a b x y = (same_from 0 text [] [] a b nothing_next nothing_next x y).tokens

pub not_both : (text : List ℕ) (a : List Token) → AreTokens text a → HasBadToken text → ⊥
not_both text a x y = y.1.is_bad.some (sym (same_from 0 text [] y.1.rest a y.0 nothing_next y.1.is_bad.none x y.1.tokens_are).rests)

-- Tokens at the front of a text are the first of all tokens up to where nothing may go on.
pub front_of : (at : ℕ) (text rest other : List ℕ) (a b : List Token) → Stops other → AreTokensFrom at text rest a → AreTokensFrom at text other b → (c : List Token) × (b ≡ a ++ c)
front_of at text rest other a b end (done e) d = (b, refl)
front_of at text rest other a b end (past_separator p x e f d) (done g) = absurd (end separator p x (sym g ∙ e) f)
front_of at text rest other a b end (past_token kind p x e f d) (done g) = absurd (end (token kind) p x (sym g ∙ e) f)
front_of at text rest other a b end (past_separator p x e f d) (past_token kind q y g h c) = absurd (no_token kind (same_next text separator p x (token kind) q y e f g h).shapes)
front_of at text rest other a b end (past_token kind p x e f d) (past_separator q y g h c) = absurd (no_token kind (same_next text separator q y (token kind) p x g h e f).shapes)
front_of at text rest other a b end (past_separator p x e f d) (past_separator q y g h c) =
    let same = same_next text separator p x separator q y e f g h in
    front_of (at + length p) x rest other a b end d (moved at (length p) (length q) x y other b same.sizes same.lefts c)
front_of at text rest other a b end (past_token {tokens = us} kind p x e f d) (past_token {tokens = vs} second q y g h c) =
    let same = same_next text (token kind) p x (token second) q y e f g h in
    let kinds = same_kind kind second same.shapes in
    let deeper = front_of (at + length p) x rest other us vs end d (moved at (length p) (length q) x y other vs same.sizes same.lefts c) in
    let first : token_at kind at (length p) ≡ token_at second at (length q) = (λ i. token_at (kinds i) at (same.sizes i)) in
    (deeper.0, ap (λ l. token_at second at (length q) ∷ l) deeper.1 ∙ ap (λ t. t ∷ (us ++ deeper.0)) (sym first))

-- Of two fronts of a text one has the tokens of the other first.
pub fronts : (at : ℕ) (text rest other : List ℕ) (a b : List Token) → AreTokensFrom at text rest a → AreTokensFrom at text other b → ((c : List Token) × (b ≡ a ++ c)) ⊎ ((c : List Token) × (a ≡ b ++ c))
fronts at text rest other a b (done e) d = inl (b, refl)
fronts at text rest other a b (past_separator p x e f d) (done g) = inr (a, refl)
fronts at text rest other a b (past_token kind p x e f d) (done g) = inr (a, refl)
fronts at text rest other a b (past_separator p x e f d) (past_token kind q y g h c) = absurd (no_token kind (same_next text separator p x (token kind) q y e f g h).shapes)
fronts at text rest other a b (past_token kind p x e f d) (past_separator q y g h c) = absurd (no_token kind (same_next text separator q y (token kind) p x g h e f).shapes)
fronts at text rest other a b (past_separator p x e f d) (past_separator q y g h c) =
    let same = same_next text separator p x separator q y e f g h in
    fronts (at + length p) x rest other a b d (moved at (length p) (length q) x y other b same.sizes same.lefts c)
fronts at text rest other a b (past_token {tokens = us} kind p x e f d) (past_token {tokens = vs} second q y g h c) =
    let same = same_next text (token kind) p x (token second) q y e f g h in
    let kinds = same_kind kind second same.shapes in
    let first : token_at kind at (length p) ≡ token_at second at (length q) = (λ i. token_at (kinds i) at (same.sizes i)) in
    elim (fronts (at + length p) x rest other us vs d (moved at (length p) (length q) x y other vs same.sizes same.lefts c)) [
      | inl m ↦ inl (m.0, ap (λ l. token_at second at (length q) ∷ l) m.1 ∙ ap (λ t. t ∷ (us ++ m.0)) (sym first))
      | inr m ↦ inr (m.0, ap (λ l. token_at kind at (length p) ∷ l) m.1 ∙ ap (λ t. t ∷ (vs ++ m.0)) first)
    ]
