-- Bytes put into a buffer, and more behind them, are put there together.
use Rattle.std.proofs.Common.{◌≡◌, ℕ, suc, ◌+◌, ◌<◌, ◌≤◌, List, [], ◌∷◌, ◌++◌, length, take, drop, set, sym, refl, ap, ◌∙◌, append_assoc, arith, flat_map, length-append, length-take-le, length-drop}
use Rattle.std.proofs.lemmas.List.{set_split, take_at, drop_at, drop-drop}
use Rattle.text.specs.Puts.{placed}
use Rattle.text.specs.Puts.{Put}
use Rattle.text.proofs.Texts.{text_more, text_within}

-- ---- the buffer
pub placed_byte : (b at : ℕ) (buffer : List ℕ) → at < length buffer → set buffer at b ≡ placed (b ∷ []) at buffer
placed_byte b at buffer h =
    let n : suc at ≡ at + 1 = omega arith in
    set_split buffer at b h ∙ ap (λ (k : ℕ). take at buffer ++ b ∷ drop k buffer) n ∙ sym (append_assoc (take at buffer) (b ∷ []) (drop (at + 1) buffer))

-- what stands up to the end of the bytes
length_front : (xs : List ℕ) (at : ℕ) (buffer : List ℕ) → at ≤ length buffer → length (take at buffer ++ xs) ≡ at + length xs
length_front xs at buffer h = length-append (take at buffer) xs ∙ ap (λ (k : ℕ). k + length xs) (length-take-le at buffer h)

pub placed_then_placed : (xs ys : List ℕ) (at : ℕ) (buffer : List ℕ) → at + length xs ≤ length buffer → placed ys (at + length xs) (placed xs at buffer) ≡ placed (xs ++ ys) at buffer
placed_then_placed xs ys at buffer h =
    let n = at + length xs in
    let front = take at buffer ++ xs in
    let behind = drop n buffer in
    let len : length front ≡ n = length_front xs at buffer (omega arith) in
    let k : at + length (xs ++ ys) ≡ n + length ys = omega (arith, length-append xs ys) in
    rw (k, take_at front behind n len, ← drop-drop (length ys) n (front ++ behind), drop_at front behind n len, drop-drop (length ys) n buffer, append_assoc (take at buffer) xs ys) refl

pub length_placed : (xs : List ℕ) (at : ℕ) (buffer : List ℕ) → at + length xs ≤ length buffer → length (placed xs at buffer) ≡ length buffer
length_placed xs at buffer h =
    let n = at + length xs in
    let len : length (take at buffer ++ xs) ≡ n = length_front xs at buffer (omega arith) in
    omega (arith, length-append (take at buffer ++ xs) (drop n buffer), length-drop n buffer)

-- ---- a call that puts bytes, and the next
pub put_then : {xs ys : List ℕ} {at m end : ℕ} {old mid new : List ℕ} → Put xs at old m mid → Put ys m mid end new → Put (xs ++ ys) at old end new
put_then {xs} {ys} {at} {m} {end} {old} {mid} {new} p q =
    let first : at + length xs ≤ length old = omega (arith, p.ends, p.fits) in
    let kept : length mid ≡ length old = ap length p.bytes ∙ length_placed xs at old first in
    let joined = placed_then_placed xs ys at old first in
    let a = p.bytes in
    let b = q.bytes in
    let c = p.ends in
    record { ends = omega (arith, length-append xs ys, p.ends, q.ends); fits = omega (arith, q.fits); bytes = cc }

-- ---- the texts of a list's elements, put one by one
pub put_more : {X : Type 0} (text : X → List ℕ) (xs : List X) (i : ℕ) (x : X) {at m end : ℕ} {old mid new : List ℕ} → take (i + 1) xs ≡ take i xs ++ x ∷ [] → Put (flat_map text (take i xs)) at old m mid → Put (text x) m mid end new → Put (flat_map text (take (i + 1) xs)) at old end new
put_more text xs i x e p q = rw (text_more text xs i x e) (put_then p q)

pub put_fits : {X : Type 0} (text : X → List ℕ) (xs : List X) (i : ℕ) (x : X) {at m : ℕ} {old mid : List ℕ} → take (i + 1) xs ≡ take i xs ++ x ∷ [] → at + length (flat_map text xs) ≤ length old → length mid ≡ length old → Put (flat_map text (take i xs)) at old m mid → m + length (text x) ≤ length mid
put_fits text xs i x e h k p = omega (arith, text_within text xs i x e, p.ends)
