-- What a block owns, and what a reader of it has.
use Rattle.std.specs.Prelude.{ℕ, zero, suc, ◌+◌, ◌-◌, ◌*◌, ◌^◌, List, [], length}
use mir.Syntax.{Ty, ty_array}
use base.Fraction.{full_share}
use base.Fml.{Fml, Lft, ffalse, fsep, feq, froom, flt}
use prog.Memory.{size}
use denote.RattleType.{RattleType}
use denote.Memory.{lone}
use denote.Array.{Array}
use denote.RawPtr.{Ptr, block_ptr, null_ptr, lies_at}
use denote.Struct.Lending.{lent_at}
use Rattle.std.specs.Allocator.{array_of}

-- room for n elements that follow k elements at p
abbrev pub room_after : RattleType → ℕ → ℕ → Ptr → Fml
room_after R k n (block_ptr b o) = froom (ty_array (lone R.mir) n) b (k * size (lone R.mir) + o)
room_after R k n null_ptr = ffalse

-- k elements are no more than n, and n of them take less than 2 ^ 63 bytes
abbrev pub fits : RattleType → ℕ → ℕ → Fml
fits R k n = fsep (flt k (n + 1)) (flt (n * size (lone R.mir)) (2 ^ 63))

-- a block for n elements at p that begins with the elements xs, and the right to free it; no block where n is 0
abbrev pub owned : (Ty → Ptr → Fml) → (R : RattleType) → Ptr → ℕ → List R.Denot → Fml
owned holds R p zero xs = feq (List R.Denot) xs []
owned holds R p (suc n) xs = fsep (lies_at (Array R (length xs)) full_share p xs) (fsep (fits R (length xs) (suc n)) (fsep (room_after R (length xs) (suc n - length xs) p) (holds (array_of R (suc n)) p)))

-- the elements of such a block, for a reader
abbrev pub lent : (R : RattleType) → Ptr → ℕ → List R.Denot → Lft → Fml
lent R p zero xs κ = feq (List R.Denot) xs []
lent R p (suc n) xs κ = fsep (lent_at (Array R (length xs)) p xs κ) (fits R (length xs) (suc n))
