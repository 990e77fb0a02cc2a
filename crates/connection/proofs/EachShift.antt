-- Each shift stands once in the list of all.
use Rattle.std.proofs.Common.{◌≡◌, ℕ, zero, suc, Some, refl, slice_get}
use Rattle.connection.specs.Shifts.{all_shifts, EachShiftOnce}
use Rattle.connection.specs.declared.ride.Shift.TheVariants.{DayBefore, SameDay, DayAfter}

pub each_shift_once : EachShiftOnce all_shifts
each_shift_once DayBefore = (0, refl, only)
  where
    only : (j : ℕ) → slice_get all_shifts j ≡ Some DayBefore → j ≡ 0
    only zero e = refl
    only (suc zero) e = cc
    only (suc (suc zero)) e = cc
    only (suc (suc (suc j))) e = cc
each_shift_once SameDay = (1, refl, only)
  where
    only : (j : ℕ) → slice_get all_shifts j ≡ Some SameDay → j ≡ 1
    only zero e = cc
    only (suc zero) e = refl
    only (suc (suc zero)) e = cc
    only (suc (suc (suc j))) e = cc
each_shift_once DayAfter = (2, refl, only)
  where
    only : (j : ℕ) → slice_get all_shifts j ≡ Some DayAfter → j ≡ 2
    only zero e = cc
    only (suc zero) e = cc
    only (suc (suc zero)) e = refl
    only (suc (suc (suc j))) e = cc
