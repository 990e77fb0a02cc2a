-- Rows of one table that read the same in another: the trains that they hold are the same.
use Rattle.std.proofs.Common.{◌≡◌, ℕ, ◌+◌, ◌-◌, ◌<◌, ◌≤◌, true, List, [], ◌∷◌, map, length, get_or, take, drop, set, sym, refl, ◌∙◌, ap₂, arith, length-drop, length-set, length-take-le, get_or-drop, get_or-take, ext_get_or}
use Rattle.std.proofs.lemmas.List.{get_or-set_other}
use Rattle.std.proofs.lemmas.Bool.{and_parts, and_from, eqb-true, eq-eqb}
use Rattle.book.specs.declared.rows.StopRow.{StopRow}
use Rattle.book.specs.declared.rows.TrainRow.{TrainRow}
use Rattle.book.specs.Trains.{Train, gapless, trains_in}
use Rattle.book.specs.Answers.{forward}
use Rattle.book.proofs.Gaps.{gapless_ends}
use Rattle.book.proofs.StopOrder.{no_stop}

-- n rows from a on in xs are n rows from b on in ys
pub window : (xs ys : List StopRow) (a b n : ℕ) → a + n ≤ length xs → b + n ≤ length ys
    → ((i : ℕ) → i < n → get_or xs (a + i) no_stop ≡ get_or ys (b + i) no_stop) → take n (drop a xs) ≡ take n (drop b ys)
window xs ys a b n p q same =
    let lx : length (take n (drop a xs)) ≡ n = length-take-le n (drop a xs) (simp length-drop (omega arith)) in
    let ly : length (take n (drop b ys)) ≡ n = length-take-le n (drop b ys) (simp length-drop (omega arith)) in
    ext_get_or no_stop _ _ (lx ∙ sym ly) (λ i h.
    let less : i < n = omega arith in
    get_or-take n (drop a xs) i no_stop less ∙ get_or-drop a xs i no_stop ∙ same i less ∙ sym (get_or-drop b ys i no_stop) ∙ sym (get_or-take n (drop b ys) i no_stop less))

-- rows whose stops end before a change read as they did
pub trains_same : (at end : ℕ) (rows : List TrainRow) (xs ys : List StopRow) → gapless at end rows ≡ true → end ≤ length xs → end ≤ length ys
    → ((i : ℕ) → i < end → get_or ys i no_stop ≡ get_or xs i no_stop) → trains_in rows ys ≡ trains_in rows xs
trains_same at end [] xs ys h p q same = refl
trains_same at end (r ∷ rs) xs ys h p q same =
    let k = and_parts _ _ h in
    let e = eqb-true r.first at k.0 in
    let le = gapless_ends (at + r.count) end rs k.1 in
    let w : take r.count (drop r.first ys) ≡ take r.count (drop r.first xs)
    = window ys xs r.first r.first r.count (omega arith) (omega arith) (λ i less. same (r.first + i) (omega arith)) in
    ap₂ {C = List Train} (λ (ss : List StopRow) (ts : List Train). record { number = r.number; code = r.code; features = r.features; stops = ss } ∷ ts) w (trains_same (at + r.count) end rs xs ys k.1 p q same)

-- rows whose stops have moved forward by c read as they did
pub trains_moved : (c at end : ℕ) (rows : List TrainRow) (xs ys : List StopRow) → gapless at end rows ≡ true → c ≤ at → end ≤ length xs → end - c ≤ length ys
    → ((i : ℕ) → at ≤ i → i < end → get_or ys (i - c) no_stop ≡ get_or xs i no_stop) → trains_in (map (forward c) rows) ys ≡ trains_in rows xs
trains_moved c at end [] xs ys h l p q same = refl
trains_moved c at end (r ∷ rs) xs ys h l p q same =
    let k = and_parts _ _ h in
    let e = eqb-true r.first at k.0 in
    let le = gapless_ends (at + r.count) end rs k.1 in
    let w : take r.count (drop (r.first - c) ys) ≡ take r.count (drop r.first xs)
    = window ys xs (r.first - c) r.first r.count (omega arith) (omega arith)
    (λ i less. let m : (r.first - c) + i ≡ (r.first + i) - c = omega arith in rw m (same (r.first + i) (omega arith) (omega arith))) in
    ap₂ {C = List Train} (λ (ss : List StopRow) (ts : List Train). record { number = r.number; code = r.code; features = r.features; stops = ss } ∷ ts) w
    (trains_moved c (at + r.count) end rs xs ys k.1 (omega arith) p q (λ i more less. same i (omega arith) less))

-- a write past the rows' stops
pub trains_set : (at end : ℕ) (rows : List TrainRow) (xs : List StopRow) (i : ℕ) (s : StopRow) → gapless at end rows ≡ true → end ≤ length xs → end ≤ i
    → trains_in rows (set xs i s) ≡ trains_in rows xs
trains_set at end rows xs i s h p q =
    trains_same at end rows xs (set xs i s) h p (rw length-set p) (λ j less. get_or-set_other xs i j s no_stop (λ e. omega arith))

-- what follows moves forward without a gap
pub gapless_forward : (c at end : ℕ) (rows : List TrainRow) → c ≤ at → gapless at end rows ≡ true → gapless (at - c) (end - c) (map (forward c) rows) ≡ true
gapless_forward c at end [] l h = let e = eqb-true at end h in eq-eqb (at - c) (end - c) (omega arith)
gapless_forward c at end (r ∷ rs) l h =
    let k = and_parts _ _ h in
    let e = eqb-true r.first at k.0 in
    let rest = gapless_forward c (at + r.count) end rs (omega arith) k.1 in
    let m : (at + r.count) - c ≡ (at - c) + r.count = omega arith in
    and_from _ _ (eq-eqb (r.first - c) (at - c) (omega arith)) (rw m at rest)
