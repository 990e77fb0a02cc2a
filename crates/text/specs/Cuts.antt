-- Bytes cut in two at the first of a given byte.
use Rattle.std.specs.Prelude.{ℕ, Bool, List, length, ◌==◌, nat_lt}
use Rattle.std.specs.List.{position_or_len, before_first, after_first}

-- how many bytes stand ahead of the first `mark`, all where there is none
abbrev pub ahead : ℕ → List ℕ → ℕ
ahead mark bs = position_or_len (λ b. b == mark) bs

abbrev pub has : ℕ → List ℕ → Bool
has mark bs = nat_lt (ahead mark bs) (length bs)

abbrev pub front : ℕ → List ℕ → List ℕ
front mark bs = before_first (λ b. b == mark) bs

-- what stands behind the first `mark`, nothing where there is none
abbrev pub behind : ℕ → List ℕ → List ℕ
behind mark bs = after_first (λ b. b == mark) bs
