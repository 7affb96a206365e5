-- Properties of each node: one that follows from another, and those of ready forms that are accepted.
use Rattle.std.proofs.Common.{◌≡◌, ℕ, zero, suc, ◌-◌, ◌≤◌, List, [], ◌∷◌, ◌++◌, take, length, Bool, true, false, Option, Some, None, refl, arith}
use Rattle.std.specs.Prelude.{nat_eq, if◌then◌else◌}
use Rattle.std.specs.Option.{option_or}
use Rattle.std.proofs.lemmas.Bool.Decides.{nat_tests}
use Rattle.model_terms.specs.Cores.{Core, Cores, cores, count, Var, Const, If, Let, Mv, MvLet, StobjLet, WithLocal, MustBeEqual, Call, none, more}
use Rattle.model_terms.specs.Worlds.{World, definition}
use Rattle.model_expansion.specs.Faults.{ExpandFault, Arity}
use Rattle.model_expansion.specs.TypeTerms.{false_core}
use Rattle.model_expansion.specs.Expansion.{Setting, arity_of, part_at, head_fault, if_room, ready_fault, ready_faults}
use Rattle.model_expansion_forms.specs.Nodes.{EachNode, AllNodes, IsOwnCall, HasForms, HasSeveral, HasConstant}

-- ---- one property from another

module _ (P Q : Core → Type 0) (h : (f : Core) → P f → Q f) where
  mutual
    pub each_wider : (f : Core) → EachNode P f → EachNode Q f
    each_wider (Var x) n = h (Var x) n
    each_wider (Const o) n = h (Const o) n
    each_wider (If a b c) n = (h (If a b c) n.0, each_wider a n.1, each_wider b n.2, each_wider c n.3)
    each_wider (Let names bound body) n = (h (Let names bound body) n.0, all_wider bound n.1, each_wider body n.2)
    each_wider (Mv parts) n = (h (Mv parts) n.0, all_wider parts n.1)
    each_wider (MvLet names bound body) n = (h (MvLet names bound body) n.0, each_wider bound n.1, each_wider body n.2)
    each_wider (StobjLet names bound vars producer consumer) n =
        (h (StobjLet names bound vars producer consumer) n.0, all_wider bound n.1, each_wider producer n.2, each_wider consumer n.3)
    each_wider (WithLocal stobj names producer body) n = (h (WithLocal stobj names producer body) n.0, each_wider producer n.1, each_wider body n.2)
    each_wider (MustBeEqual logic exec) n = (h (MustBeEqual logic exec) n.0, each_wider logic n.1, each_wider exec n.2)
    each_wider (Call f actuals) n = (h (Call f actuals) n.0, all_wider actuals n.1)

    pub all_wider : (fs : Cores) → AllNodes P fs → AllNodes Q fs
    all_wider none n = tt
    all_wider (more f fs) n = (each_wider f n.0, all_wider fs n.1)

-- ---- both of two

module _ (P Q R : Core → Type 0) (h : (f : Core) → P f → Q f → R f) where
  mutual
    pub each_both : (f : Core) → EachNode P f → EachNode Q f → EachNode R f
    each_both (Var x) n m = h (Var x) n m
    each_both (Const o) n m = h (Const o) n m
    each_both (If a b c) n m = (h (If a b c) n.0 m.0, each_both a n.1 m.1, each_both b n.2 m.2, each_both c n.3 m.3)
    each_both (Let names bound body) n m = (h (Let names bound body) n.0 m.0, all_both bound n.1 m.1, each_both body n.2 m.2)
    each_both (Mv parts) n m = (h (Mv parts) n.0 m.0, all_both parts n.1 m.1)
    each_both (MvLet names bound body) n m = (h (MvLet names bound body) n.0 m.0, each_both bound n.1 m.1, each_both body n.2 m.2)
    each_both (StobjLet names bound vars producer consumer) n m =
        (h (StobjLet names bound vars producer consumer) n.0 m.0, all_both bound n.1 m.1, each_both producer n.2 m.2, each_both consumer n.3 m.3)
    each_both (WithLocal stobj names producer body) n m = (h (WithLocal stobj names producer body) n.0 m.0, each_both producer n.1 m.1, each_both body n.2 m.2)
    each_both (MustBeEqual logic exec) n m = (h (MustBeEqual logic exec) n.0 m.0, each_both logic n.1 m.1, each_both exec n.2 m.2)
    each_both (Call f actuals) n m = (h (Call f actuals) n.0 m.0, all_both actuals n.1 m.1)

    pub all_both : (fs : Cores) → AllNodes P fs → AllNodes Q fs → AllNodes R fs
    all_both none n m = tt
    all_both (more f fs) n m = (each_both f n.0 m.0, all_both fs n.1 m.1)

-- ---- the nodes of an expansion

-- what holds of a node whomever it calls: `P` of the symbols in constants
pub record IsShapedNode (P : ℕ → Type 0) (f : Core) : Type 0 where
  pub forms : HasForms f
  pub several : HasSeveral f
  pub constant : HasConstant P f

pub record IsNode (w : World) (P : ℕ → Type 0) (f : Core) : Type 0 where
  pub own : IsOwnCall w f
  pub shaped : IsShapedNode P f

abbrev pub IsShaped : (ℕ → Type 0) → Core → Type 0
IsShaped P f = EachNode (IsShapedNode P) f

abbrev pub IsGood : World → (ℕ → Type 0) → Core → Type 0
IsGood w P f = EachNode (IsNode w P) f

-- ---- ready forms that are accepted are closed

first_none : (a b : Option ExpandFault) → option_or a b ≡ None → a ≡ None
first_none None b e = refl
first_none (Some fault) b e = cc

other_none : (a b : Option ExpandFault) → option_or a b ≡ None → b ≡ None
other_none None b e = e
other_none (Some fault) b e = cc

module _ (x : Setting) where
  below_room : (left : ℕ) (fault : Option ExpandFault) → if_room x left fault ≡ None → fault ≡ None
  below_room zero fault e = cc
  below_room (suc left) fault e = e

  takes_so_many : (f n : ℕ) (arity : Option ℕ) → head_fault x f n arity ≡ None → arity ≡ Some n
  takes_so_many f n None e = cc
  takes_so_many f n (Some arity) e = go (nat_eq n arity) refl e
    where
      go : (b : Bool) → nat_eq n arity ≡ b → (if b then None else Some (Arity f)) ≡ None → Some arity ≡ Some n
      go true same e = grind (arith, nat_tests)
      go false same e = cc

  module _ (P : ℕ → Type 0) where
    own_node : (f : Core) → IsOwnCall x.world f → IsShapedNode P f → IsNode x.world P f
    own_node f own shaped = record { own = own; shaped = shaped }

    mutual
      pub ready_good : (f : Core) (left : ℕ) → ready_fault x f left ≡ None → IsShaped P f → IsGood x.world P f
      ready_good (Var v) left e s = own_node (Var v) tt s
      ready_good (Const o) left e s = own_node (Const o) tt s
      ready_good (If a b c) left e s =
          let h = below_room left _ e in
          let k = other_none (ready_fault x a (left - 1)) _ h in
          (own_node (If a b c) tt s.0, ready_good a (left - 1) (first_none _ _ h) s.1, ready_good b (left - 1) (first_none _ _ k) s.2, ready_good c (left - 1) (other_none (ready_fault x b (left - 1)) _ k) s.3)
      ready_good (Let names bound body) left e s =
          let h = below_room left _ e in
          (own_node (Let names bound body) tt s.0, all_ready_good bound (left - 1) (first_none _ _ h) s.1, ready_good body (left - 1) (other_none (ready_faults x bound (left - 1)) _ h) s.2)
      ready_good (Mv parts) left e s = (own_node (Mv parts) tt s.0, all_ready_good parts (left - 1) (below_room left _ e) s.1)
      ready_good (MvLet names bound body) left e s =
          let h = below_room left _ e in
          (own_node (MvLet names bound body) tt s.0, ready_good bound (left - 1) (first_none _ _ h) s.1, ready_good body (left - 1) (other_none (ready_fault x bound (left - 1)) _ h) s.2)
      ready_good (StobjLet names bound vars producer consumer) left e s =
          let h = below_room left _ e in
          let k = other_none (ready_faults x bound (left - 1)) _ h in
          (own_node (StobjLet names bound vars producer consumer) tt s.0, all_ready_good bound (left - 1) (first_none _ _ h) s.1, ready_good producer (left - 1) (first_none _ _ k) s.2, ready_good consumer (left - 1) (other_none (ready_fault x producer (left - 1)) _ k) s.3)
      ready_good (WithLocal stobj names producer body) left e s =
          let h = below_room left _ e in
          (own_node (WithLocal stobj names producer body) tt s.0, ready_good producer (left - 1) (first_none _ _ h) s.1, ready_good body (left - 1) (other_none (ready_fault x producer (left - 1)) _ h) s.2)
      ready_good (MustBeEqual logic exec) left e s =
          let h = below_room left _ e in
          (own_node (MustBeEqual logic exec) tt s.0, ready_good logic (left - 1) (first_none _ _ h) s.1, ready_good exec (left - 1) (other_none (ready_fault x logic (left - 1)) _ h) s.2)
      ready_good (Call f actuals) left e s =
          let h = below_room left _ e in
          let head = head_fault x f (count actuals) (arity_of (definition x.world f)) in (
            own_node (Call f actuals) (takes_so_many f (count actuals) (arity_of (definition x.world f)) (first_none head (ready_faults x actuals (left - 1)) h)) s.0,
            all_ready_good actuals (left - 1) (other_none head (ready_faults x actuals (left - 1)) h) s.1,
          )

      pub all_ready_good : (fs : Cores) (left : ℕ) → ready_faults x fs left ≡ None → AllNodes (IsShapedNode P) fs → AllNodes (IsNode x.world P) fs
      all_ready_good none left e s = tt
      all_ready_good (more f fs) left e s =
          (ready_good f left (first_none (ready_fault x f left) (ready_faults x fs left) e) s.0, all_ready_good fs left (other_none (ready_fault x f left) (ready_faults x fs left) e) s.1)

-- ---- parts of a node

module _ (P : Core → Type 0) where
  pub part_each : (fs : List Core) (k : ℕ) → P false_core → AllNodes P (cores fs) → EachNode P (part_at fs k)
  part_each [] k room h = room
  part_each (f ∷ fs) zero room h = h.0
  part_each (f ∷ fs) (suc k) room h = part_each fs k room h.1

  pub take_each : (n : ℕ) (fs : List Core) → AllNodes P (cores fs) → AllNodes P (cores (take n fs))
  take_each zero fs h = tt
  take_each (suc n) [] h = tt
  take_each (suc n) (f ∷ fs) h = (h.0, take_each n fs h.1)

  pub last_each : (fs : List Core) (f : Core) → AllNodes P (cores fs) → EachNode P f → AllNodes P (cores (fs ++ f ∷ []))
  last_each [] f h k = (k, tt)
  last_each (g ∷ fs) f h k = (h.0, last_each fs f h.1 k)

pub count_cores : (fs : List Core) → count (cores fs) ≡ length fs
count_cores [] = refl
count_cores (f ∷ fs) = let h = count_cores fs in omega (arith, h)

pub count_taken : (n : ℕ) (fs : List Core) → n ≤ length fs → count (cores (take n fs)) ≡ n
count_taken zero fs h = omega arith
count_taken (suc n) [] h = omega (arith, h)
count_taken (suc n) (f ∷ fs) h = let k = count_taken n fs (omega (arith, h)) in omega (arith, k)
