-- How far bytes come, one after the other.
use Rattle.std.proofs.Common.{◌≡◌, ℕ, Bool, true, false, ◌&&◌, not, List, [], ◌∷◌, ◌++◌, refl, ap, ◌∙◌}
use Rattle.bw_split.specs.declared.progress.Progress.{Progress}
use Rattle.bw_split.specs.Splitting.{is_cut, progress_from, step}
use Rattle.bw_split.specs.Stretches.{has_no_cut}

-- some bytes, and then others
pub progress-append : (p : Progress) (xs ys : List ℕ) → progress_from p (xs ++ ys) ≡ progress_from (progress_from p xs) ys
progress-append p [] ys = refl
progress-append p (x ∷ xs) ys = progress-append (step p x) xs ys

and-assoc : (a b c : Bool) → (a && (b && c)) ≡ ((a && b) && c)
and-assoc true b c = refl
and-assoc false b c = refl

pub no_cut-append : (p : Progress) (xs ys : List ℕ) → has_no_cut p (xs ++ ys) ≡ (has_no_cut p xs && has_no_cut (progress_from p xs) ys)
no_cut-append p [] ys = refl
no_cut-append p (x ∷ xs) ys =
    ap (λ t. not (is_cut p.state x) && t) (no_cut-append (step p x) xs ys) ∙ and-assoc (not (is_cut p.state x)) (has_no_cut (step p x) xs) (has_no_cut (progress_from (step p x) xs) ys)
