-- What is packed is unpacked again.
use Rattle.std.specs.Prelude.{◌≡◌, ℕ, ◌+◌, ◌*◌, ◌/◌, ◌%◌, ◌<◌, List, [], ◌∷◌, length, map, replicate, zero, suc}
use Rattle.std.proofs.Common.{get_or, refl, arith}
use Rattle.std.proofs.lemmas.List.{get_or-map}
use Rattle.acl_pool.specs.declared.cell.Kind.{Kind}
use Rattle.acl_pool.specs.declared.cell.Kind.TheVariants.{Small, Sym, Bits, Big, Str, Cons, Heap}
use Rattle.acl_pool.specs.declared.cell.Role.{Role}
use Rattle.acl_pool.specs.declared.cell.Role.TheVariants.{Inside, Wide, Text, Pair}
use Rattle.acl_pool.specs.declared.cell.Cell.{Cell}
use Rattle.acl_pool.specs.Cells.{cell_at, blank}
use Rattle.acl_pool.specs.Packing.{kind_number, role_number, kind_back, role_back, packed, unpacked}

pub kind_below : (k : Kind) → kind_number k < 8
kind_below Small = omega arith
kind_below Sym = omega arith
kind_below Bits = omega arith
kind_below Big = omega arith
kind_below Str = omega arith
kind_below Cons = omega arith
kind_below Heap = omega arith

pub role_below : (r : Role) → role_number r < 4
role_below Inside = omega arith
role_below Wide = omega arith
role_below Text = omega arith
role_below Pair = omega arith

pub first_of_three : (a b c : ℕ) → a < 8 → ((a + 8 * b) + 64 * c) % 8 ≡ a
first_of_three a b c l = omega arith

pub second_of_three : (a b c : ℕ) → a < 8 → b < 8 → ((a + 8 * b) + 64 * c) / 8 % 8 ≡ b
second_of_three a b c l k = omega arith

pub third_of_three : (a b c : ℕ) → a < 8 → b < 8 → ((a + 8 * b) + 64 * c) / 64 ≡ c
third_of_three a b c l k = omega arith

pub unpacked-packed : (c : Cell) → unpacked (packed c) ≡ c
unfolding packed unpacked
unpacked-packed c =
    rw (
      first_of_three (kind_number c.left_kind) (kind_number c.right_kind) (role_number c.role) (kind_below c.left_kind),
      second_of_three (kind_number c.left_kind) (kind_number c.right_kind) (role_number c.role) (kind_below c.left_kind) (kind_below c.right_kind),
      third_of_three (kind_number c.left_kind) (kind_number c.right_kind) (role_number c.role) (kind_below c.left_kind) (kind_below c.right_kind),
      kind_back c.left_kind,
      kind_back c.right_kind,
      role_back c.role,
    )
    refl

pub unpacked_zeros : unpacked (0 ∷ 0 ∷ 0 ∷ 0 ∷ []) ≡ blank
unfolding unpacked
unpacked_zeros = refl

pub read_unpacked : (ws : List (List ℕ)) (i : ℕ) → i < length ws → cell_at (map unpacked ws) i ≡ unpacked (get_or ws i [])
read_unpacked ws i l = get_or-map unpacked ws i [] blank l

pub map-replicate : (n : ℕ) → map unpacked (replicate n (0 ∷ 0 ∷ 0 ∷ 0 ∷ [])) ≡ replicate n blank
map-replicate zero = refl
map-replicate (suc n) = rw (unpacked_zeros, map-replicate n) refl
