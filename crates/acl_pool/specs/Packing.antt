-- A cell as four words of memory.
use Rattle.std.specs.Prelude.{◌≡◌, ℕ, ◌+◌, ◌*◌, ◌/◌, ◌%◌, List, [], ◌∷◌, zero, suc, refl}
use Rattle.std.proofs.Common.{get_or}
use Rattle.std.specs.Coded.{Coded, code_by, coded_list, coded_ℕ}
use Rattle.acl_pool.specs.declared.cell.Kind.{Kind}
use Rattle.acl_pool.specs.declared.cell.Kind.TheVariants.{Small, Sym, Bits, Big, Str, Cons, Heap}
use Rattle.acl_pool.specs.declared.cell.Role.{Role}
use Rattle.acl_pool.specs.declared.cell.Role.TheVariants.{Inside, Wide, Text, Pair}
use Rattle.acl_pool.specs.declared.cell.Cell.{Cell}

abbrev pub kind_number : Kind → ℕ
kind_number Small = 0
kind_number Sym = 1
kind_number Bits = 2
kind_number Big = 3
kind_number Str = 4
kind_number Cons = 5
kind_number Heap = 6

abbrev pub kind_from : ℕ → Kind
kind_from zero = Small
kind_from (suc zero) = Sym
kind_from (suc (suc zero)) = Bits
kind_from (suc (suc (suc zero))) = Big
kind_from (suc (suc (suc (suc zero)))) = Str
kind_from (suc (suc (suc (suc (suc zero))))) = Cons
kind_from (suc (suc (suc (suc (suc (suc n)))))) = Heap

abbrev pub role_number : Role → ℕ
role_number Inside = 0
role_number Wide = 1
role_number Text = 2
role_number Pair = 3

abbrev pub role_from : ℕ → Role
role_from zero = Inside
role_from (suc zero) = Wide
role_from (suc (suc zero)) = Text
role_from (suc (suc (suc n))) = Pair

pub kind_back : (k : Kind) → kind_from (kind_number k) ≡ k
kind_back Small = refl
kind_back Sym = refl
kind_back Bits = refl
kind_back Big = refl
kind_back Str = refl
kind_back Cons = refl
kind_back Heap = refl

pub role_back : (r : Role) → role_from (role_number r) ≡ r
role_back Inside = refl
role_back Wide = refl
role_back Text = refl
role_back Pair = refl

-- the kinds and the role in one word
abbrev pub last_word : Cell → ℕ
last_word c = (kind_number c.left_kind + 8 * kind_number c.right_kind) + 64 * role_number c.role

unfoldable pub packed : Cell → List ℕ
packed c = c.left ∷ c.right ∷ c.link ∷ last_word c ∷ []

unfoldable pub unpacked : List ℕ → Cell
unpacked ws = record {
  left = get_or ws 0 0;
  right = get_or ws 1 0;
  link = get_or ws 2 0;
  left_kind = kind_from (get_or ws 3 0 % 8);
  right_kind = kind_from (get_or ws 3 0 / 8 % 8);
  role = role_from (get_or ws 3 0 / 64);
}

abbrev pub listed : Cell → List ℕ
listed c = c.left ∷ c.right ∷ c.link ∷ kind_number c.left_kind ∷ kind_number c.right_kind ∷ role_number c.role ∷ []

abbrev pub from_list : List ℕ → Cell
from_list ws = record {
  left = get_or ws 0 0;
  right = get_or ws 1 0;
  link = get_or ws 2 0;
  left_kind = kind_from (get_or ws 3 0);
  right_kind = kind_from (get_or ws 4 0);
  role = role_from (get_or ws 5 0);
}

pub listed_back : (c : Cell) → from_list (listed c) ≡ c
listed_back c = rw (kind_back c.left_kind, kind_back c.right_kind, role_back c.role) refl

abbrev pub cells_code : Coded (List Cell)
cells_code = coded_list (code_by (List ℕ) (coded_list coded_ℕ) listed from_list listed_back)
