-- What is in a list that is made of others, and what is so of each element of one.
use Rattle.std.proofs.Common.{◌≡◌, ℕ, zero, suc, ◌+◌, ◌<◌, Bool, true, false, cond, ◌||◌, T, List, [], ◌∷◌, length, map, filter, flat_map, get_or, All, Contains, sym, ap, ◌∙◌, subst, inl, inr, arith, ◌⊎◌}
use Rattle.std.specs.List.{list_any, list_all, range_with_len}
use Rattle.std.proofs.lemmas.List.{length-map, get_or-map}
use Rattle.std.proofs.lemmas.List.Elements.{All-nil, All-append, All-head, All-tail, filter_passes, Contains-append_left, Contains-append_right}
use Rattle.std.proofs.lemmas.List.FromFn.{length-range_with_len, get_or-range_with_len}
use Rattle.connection.proofs.Tests.{both_left, both_right}

pub in_range : (n i : ℕ) → i < n → Contains (range_with_len 0 n) i
in_range n i h =
    let zero_more : 0 + i ≡ i = omega arith in (i, omega (arith, length-range_with_len 0 n), get_or-range_with_len 0 n i i h ∙ zero_more)

-- ---- lists made of the elements of others
module _ {X Y : Type 0} where
  pub in_map : (f : X → Y) (xs : List X) (x : X) → Contains xs x → Contains (map f xs) (f x)
  in_map f xs x c = (c.0, omega (arith, c.1, length-map xs f), get_or-map f xs c.0 x (f x) c.1 ∙ ap f c.2)

  pub in_flat_map : (f : X → List Y) (xs : List X) (x : X) (y : Y) → Contains xs x → Contains (f x) y → Contains (flat_map f xs) y
  in_flat_map f xs x y c d = from xs c.0 c.1 c.2
    where
      from : (zs : List X) (k : ℕ) → k < length zs → get_or zs k x ≡ x → Contains (flat_map f zs) y
      from [] k h e = absurd (omega arith)
      from (z ∷ zs) zero h e = Contains-append_left (f z) (flat_map f zs) y (subst (λ (w : X). Contains (f w) y) (sym e) d)
      from (z ∷ zs) (suc k) h e = Contains-append_right (f z) (flat_map f zs) y (from zs k (omega arith) e)

  pub all_in_flat_map : (Q : X → Type 0) (P : Y → Type 0) (f : X → List Y) → ((x : X) → Q x → All P (f x)) → (xs : List X) → All Q xs → All P (flat_map f xs)
  all_in_flat_map Q P f h [] a = All-nil P
  all_in_flat_map Q P f h (x ∷ xs) a = All-append P (f x) (flat_map f xs) (h x (All-head Q x xs a)) (all_in_flat_map Q P f h xs (All-tail Q x xs a))

-- ---- tests of each element
module _ {X : Type 0} (p : X → Bool) where
  kept : (b : Bool) (x : X) (xs : List X) → T b → Contains (cond b (x ∷ xs) xs) x
  kept true x xs t = (0, omega arith, λ i. x)
  kept false x xs t = absurd t

  kept_later : (b : Bool) (z : X) (xs : List X) (x : X) → Contains xs x → Contains (cond b (z ∷ xs) xs) x
  kept_later true z xs x c = (suc c.0, omega (arith, c.1), c.2)
  kept_later false z xs x c = c

  pub in_filter : (xs : List X) (x : X) → Contains xs x → T (p x) → Contains (filter p xs) x
  in_filter xs x c t = from xs c.0 c.1 c.2
    where
      from : (zs : List X) (k : ℕ) → k < length zs → get_or zs k x ≡ x → Contains (filter p zs) x
      from [] k h e = absurd (omega arith)
      from (z ∷ zs) zero h e = subst (Contains (filter p (z ∷ zs))) e (kept (p z) z (filter p zs) (subst (λ (w : X). T (p w)) (sym e) t))
      from (z ∷ zs) (suc k) h e = kept_later (p z) z (filter p zs) x (from zs k (omega arith) e)

  pub passed_filter : (xs : List X) → All (λ x. T (p x)) (filter p xs)
  passed_filter xs k d h = subst T (sym (filter_passes p xs k d h)) tt

  pub passes_in : (xs : List X) (x : X) → Contains xs x → T (list_all p xs) → T (p x)
  passes_in xs x c t = from xs c.0 c.1 c.2 t
    where
      from : (zs : List X) (k : ℕ) → k < length zs → get_or zs k x ≡ x → T (list_all p zs) → T (p x)
      from [] k h e t = absurd (omega arith)
      from (z ∷ zs) zero h e t = subst (λ (w : X). T (p w)) e (both_left (p z) _ t)
      from (z ∷ zs) (suc k) h e t = from zs k (omega arith) e (both_right (p z) _ t)

  one_of : (a b : Bool) → T (a || b) → T a ⊎ T b
  one_of true b t = inl tt
  one_of false b t = inr t

  pub one_passes : (xs : List X) → T (list_any p xs) → (x : X) × Contains xs x × T (p x)
  one_passes [] t = absurd t
  one_passes (z ∷ zs) t =
      elim (one_of (p z) _ t) [ inl here ↦ (z, (0, omega arith, λ i. z), here) | inr t' ↦ let r = one_passes zs t' in (r.0, (suc r.1.0, omega (arith, r.1.1), r.1.2), r.2) ]
