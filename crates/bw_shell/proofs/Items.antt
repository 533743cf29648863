-- Items that are written one after the other, with a comma between each two.
use Rattle.std.proofs.Common.{◌≡◌, ℕ, ◌+◌, ◌-◌, ◌<◌, List, [], ◌∷◌, ◌++◌, Option, take, drop, length, get_or, codes, refl, subst, append_assoc, arith, drop-cons, add-one}
use Rattle.std.proofs.lemmas.List.{take_all}
use Rattle.std.specs.Io.KnownBytes.{Appends}
use Rattle.bw_model.specs.ReplyText.{with_commas}
use Rattle.bw_shell.specs.Writing.{AppendsPrefix}
use Rattle.bw_shell.proofs.Texts.{Progress, appends_twice, fails, prefix_before, more, others_text}

module _ {A : Type 0} (text : A → List ℕ) where
  -- the first item, and then the others, as a slice pattern takes them apart
  pub first_and_others : (xs : List A) (x : A) → 0 < length xs → x ≡ get_or xs 0 x → with_commas text xs ≡ text x ++ others_text text (take (length xs - 1) (drop 1 xs))
  first_and_others [] x h is = absurd (omega arith)
  first_and_others (y ∷ ys) x h is =
      rw (take_all (length (y ∷ ys) - 1) ys (omega arith), ← is) refl

  pub next_item : (xs : List A) (i : ℕ) (x : A) → i < length xs → x ≡ get_or xs i x → others_text text (drop i xs) ≡ (codes "," ++ text x) ++ others_text text (drop (i + 1) xs)
  next_item xs i x h is = rw (drop-cons xs i x h, add-one i, ← is) refl

module _ {A : Type 0} (text : A → List ℕ) (old now : Option (List ℕ)) (whole : List ℕ) (xs : List A) (i : ℕ) (x : A) (h : i < length xs) (is : x ≡ get_or xs i x) (p : Progress old now whole (others_text text (drop i xs))) where
  in_item : Progress old now whole ((codes "," ++ text x) ++ others_text text (drop (i + 1) xs))
  in_item = subst (Progress old now whole) (next_item text xs i x h is) p

  pub comma_fails : (new : Option (List ℕ)) → AppendsPrefix now new (codes ",") → AppendsPrefix old new whole
  comma_fails new f = fails old now new whole (codes "," ++ text x) (others_text text (drop (i + 1) xs)) in_item (prefix_before now new (codes ",") (text x) f)

  pub item_fails : (mid new : Option (List ℕ)) → Appends now mid (codes ",") → AppendsPrefix mid new (text x) → AppendsPrefix old new whole
  item_fails mid new comma f =
      let after : Progress old now whole (codes "," ++ (text x ++ others_text text (drop (i + 1) xs))) = rw (← append_assoc (codes ",") (text x) (others_text text (drop (i + 1) xs))) in_item in
      fails old mid new whole (text x) (others_text text (drop (i + 1) xs)) (more old now mid whole (codes ",") (text x ++ others_text text (drop (i + 1) xs)) after comma) f

  pub item_more : (mid new : Option (List ℕ)) → Appends now mid (codes ",") → Appends mid new (text x) → Progress old new whole (others_text text (drop (i + 1) xs))
  item_more mid new comma item = more old now new whole (codes "," ++ text x) (others_text text (drop (i + 1) xs)) in_item (appends_twice now mid new (codes ",") (text x) comma item)

module _ {A : Type 0} (text : A → List ℕ) (old now : Option (List ℕ)) (xs : List A) (x : A) (h : 0 < length xs) (is : x ≡ get_or xs 0 x) where
  pub first_fails : AppendsPrefix old now (text x) → AppendsPrefix old now (with_commas text xs)
  first_fails f = rw (first_and_others text xs x h is) (prefix_before old now (text x) (others_text text (take (length xs - 1) (drop 1 xs))) f)

  pub first_written : Appends old now (text x) → Progress old now (with_commas text xs) (others_text text (take (length xs - 1) (drop 1 xs)))
  first_written grown = record { prefix = text x; split = first_and_others text xs x h is; grown = grown }
