-- The promising ones of the labels that are listed are chained one after another.
use Rattle.std.proofs.Common.{◌≡◌, ℕ, suc, ◌+◌, ◌*◌, ◌<◌, ◌≤◌, List, get_or, None, Option, sym, refl, ap, ◌∙◌, subst, add_assoc, arith}
use Rattle.tariff.specs.Meaning.{Meaning}
use Rattle.book.specs.Limits.{last_station, most_stops}
use Rattle.connection.specs.declared.label.Label.{Label}
use Rattle.connection.specs.declared.ride.Shift.{Shift}
use Rattle.search.specs.Chains.{comes, Chained, promising}
use Rattle.search.specs.Limits.{layer_size}
use Rattle.search.specs.Notes.{past, up_to, Listed}
use Rattle.search.specs.Working.{size_of, stop_in, number, place, layer_at, label_at, if_promising}
use Rattle.search.specs.declared.chains.Arrivals.{Arrivals}
use Rattle.search.specs.declared.inquiry.Inquiry.{Inquiry}
use Rattle.search.specs.declared.notes.Notes.{Notes}
use Rattle.search.specs.declared.record.WorkRecord.{WorkRecord}
use Rattle.search.proofs.Chaining.{arrived, chained_over, chained_more}
use Rattle.search.proofs.ListedPlaces.{next_is, none_next}

module _ {P A : Type 0} (m : Meaning A) (inquiry : Inquiry P) (k : ℕ) (known : Option A) (table : List (WorkRecord A)) (n : Notes) (listed : Listed (size_of inquiry) k (layer_size (size_of inquiry)) table n) where
  abbrev size : ℕ
  size = size_of inquiry

  abbrev label : Shift → ℕ → Option (Label A)
  label = promising m inquiry table known k

  -- from one listed place to the next
  to_next : (j : ℕ) → j ≤ n.count → (c : Arrivals A) → Chained inquiry label (past n j) c → Chained inquiry label (up_to n (layer_size size) j) c
  to_next j lj c h =
      chained_over inquiry label (past n j) (up_to n (layer_size size) j) c (listed.rising j lj)
      (λ s row inside low high. ap (if_promising m known) (ap (label_at table) (add_assoc (layer_at size k) (number s * size) row) ∙ listed.none_between j (place size s row) lj low high)) h

  pub chained_next : (few : size ≤ most_stops) (j : ℕ) → j < n.count → (s : Shift) (row : ℕ) → row < size → get_or n.places j 0 ≡ place size s row → (stop_in inquiry row).station ≤ last_station → (minute : ℕ) → minute ≡ comes inquiry.query.now (stop_in inquiry row) s → (c : Arrivals A) → Chained inquiry label (past n j) c → Chained inquiry label (past n (j + 1)) (arrived c (stop_in inquiry row).station minute (place size s row) (label s row))
  chained_next few j lj s row inside is station minute when c h =
      let here = subst (λ (x : ℕ). Chained inquiry label x c) (next_is n (layer_size size) j lj ∙ is) (to_next j (omega arith) c h) in
      let more = chained_more inquiry label s row inside few station c minute when here (label s row) refl in
      let behind : place size s row + 1 ≡ past n (suc j) = omega (arith, is) in
      let up : suc j ≡ j + 1 = omega arith in
      subst (λ (x : ℕ). Chained inquiry label (past n x) (arrived c (stop_in inquiry row).station minute (place size s row) (label s row))) up
      (subst (λ (x : ℕ). Chained inquiry label x (arrived c (stop_in inquiry row).station minute (place size s row) (label s row))) behind more)

  -- where it is not promising, it is passed over
  pub chained_past : (j : ℕ) → j < n.count → if_promising m known (label_at table (layer_at size k + get_or n.places j 0)) ≡ None → (c : Arrivals A) → Chained inquiry label (past n j) c → Chained inquiry label (past n (j + 1)) c
  chained_past j lj none c h =
      let up : suc j ≡ j + 1 = omega arith in
      let x = get_or n.places j 0 in
      let here = subst (λ (y : ℕ). Chained inquiry label y c) (next_is n (layer_size size) j lj) (to_next j (omega arith) c h) in
      subst (λ (i : ℕ). Chained inquiry label (past n i) c) up
      (chained_over inquiry label x (suc x) c (omega arith)
      (λ s row inside low high.
      let e : x ≡ place size s row = omega arith in
      ap (if_promising m known) (ap (label_at table) (add_assoc (layer_at size k) (number s * size) row ∙ ap (λ y. layer_at size k + y) (sym e))) ∙ none)
      here)

  pub chained_end : (j : ℕ) → j ≡ n.count → (c : Arrivals A) → Chained inquiry label (past n j) c → Chained inquiry label (layer_size size) c
  chained_end j e c h = subst (λ (x : ℕ). Chained inquiry label x c) (none_next n (layer_size size) j (omega (arith, e))) (to_next j (omega (arith, e)) c h)
