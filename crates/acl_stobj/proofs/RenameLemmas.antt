-- Names that are put for others.
use Rattle.std.specs.Prelude.{◌≡◌, ℕ, ◌<◌, ◌≤◌, List, [], ◌∷◌, length, Bool, true, false, nat_eq, cond, Option, Some, None, slice_get, option_map, refl}
use Rattle.std.specs.HashMap.{HashMap, get, Updates, IsEmpty}
use Rattle.std.specs.List.{find}
use Rattle.std.specs.Option.{option_or}
use Rattle.std.proofs.Common.{sym, ap, ◌∙◌, subst, arith}
use Rattle.std.proofs.lemmas.Bool.Decides.{nat_tests}
use Rattle.model_symbols.specs.Symbols.{QualifiedName, Package, Table, symbol_at, number_of, same_name}
use Rattle.model_symbols.specs.Growth.{IsSymbol}
use Rattle.model_symbols.specs.Tables.{IsTable, symbol_under, number_in}
use Rattle.model_symbols.proofs.NameLemmas.{number-Some, number-None, symbol_at-is, symbol-at, same_self, same_name-Decides}
use Rattle.model_stobjs.specs.Descriptors.{new_name}
use Rattle.acl_base.specs.declared.SymId.{SymId}
use Rattle.acl_stobj_read.specs.Written.{seen_pair, seen_renaming}
use Rattle.acl_stobj.specs.Renames.{renamed, AreOld, Renames, Enters}

pub still_old : (m n : ℕ) (ps : List (ℕ × ℕ)) → m ≤ n → AreOld m ps → AreOld n ps
still_old m n [] l o = tt
still_old m n (p ∷ ps) l o = let q : p.0 < n = omega (arith, l, o.0) in (q, still_old m n ps l o.1)

behind_first : (p : SymId × SymId) (others : List (SymId × SymId)) (x : ℕ) (o : Option ℕ)
    → option_or (option_or o (renamed (seen_pair p ∷ []) x)) (renamed (seen_renaming others) x) ≡ option_or o (renamed (seen_renaming (p ∷ others)) x)
behind_first p others x (Some y) = refl
behind_first p others x None = by (nat_eq x p.0.0) refl
  where
    by : (b : Bool) → nat_eq x p.0.0 ≡ b → option_or (renamed (seen_pair p ∷ []) x) (renamed (seen_renaming others) x) ≡ renamed (seen_renaming (p ∷ others)) x
    by true t = rw t refl
    by false t = rw t refl

-- ---- the map

module _ {S : Type 0} where
  -- what the map has, and behind it what is found in the rest
  abbrev pub Entered : HashMap ℕ ℕ S → List (SymId × SymId) → List (SymId × SymId) → Type 0
  Entered first rest all = (x : ℕ) → option_or (get nat_eq first x) (renamed (seen_renaming rest) x) ≡ renamed (seen_renaming all) x

  pub record IsEntered (first : HashMap ℕ ℕ S) (rest all : List (SymId × SymId)) : Type 0 where
    pub each : Entered first rest all

  pub none_entered : (first : HashMap ℕ ℕ S) (all : List (SymId × SymId)) → IsEmpty first → IsEntered first all all
  none_entered first all e = record { each = λ x. rw e refl }

  pub all_entered : (n : ℕ) (first : HashMap ℕ ℕ S) (rest all : List (SymId × SymId)) → IsEntered first rest all → rest ≡ [] → AreOld n (seen_renaming all) → Renames n (seen_renaming all) first
  all_entered n first rest all g e o = record { each = λ x. last (get nat_eq first x) ∙ (ap (λ r. option_or (get nat_eq first x) (renamed (seen_renaming r) x)) (sym e) ∙ g.each x); old = o }
    where
      last : (o : Option ℕ) → o ≡ option_or o None
      last None = refl
      last (Some y) = refl

  pub kept : (first new : HashMap ℕ ℕ S) (p : SymId × SymId) (y : ℕ) → get nat_eq first p.0.0 ≡ Some y → new ≡ first → Enters first new p
  kept first new p y there same = rw same (record { each = λ x. by x (nat_eq x p.0.0) refl })
    where
      last : (o : Option ℕ) → o ≡ option_or o None
      last None = refl
      last (Some z) = refl

      by : (x : ℕ) (b : Bool) → nat_eq x p.0.0 ≡ b → get nat_eq first x ≡ option_or (get nat_eq first x) (renamed (seen_pair p ∷ []) x)
      by x true t = let s : x ≡ p.0.0 = grind (arith, nat_tests) in let f : get nat_eq first x ≡ Some y = rw s there in rw f refl
      by x false t = rw t (last (get nat_eq first x))

  pub entered : (first new : HashMap ℕ ℕ S) (p : SymId × SymId) → get nat_eq first p.0.0 ≡ None → Updates nat_eq first new p.0.0 (Some p.1.0) → Enters first new p
  entered first new p there u = record { each = λ x. by x (nat_eq p.0.0 x) refl }
    where
      last : (o : Option ℕ) → o ≡ option_or o None
      last None = refl
      last (Some z) = refl

      by : (x : ℕ) (b : Bool) → nat_eq p.0.0 x ≡ b → get nat_eq new x ≡ option_or (get nat_eq first x) (renamed (seen_pair p ∷ []) x)
      by x true t =
          let s : x ≡ p.0.0 = grind (arith, nat_tests) in
          let t' : nat_eq x p.0.0 ≡ true = grind (arith, nat_tests) in
          let f : get nat_eq first x ≡ None = rw s there in
          let m : get nat_eq new x ≡ Some p.1.0 = u.0 x ∙ rw t refl in
          rw (f, m, t') refl
      by x false t =
          let t' : nat_eq x p.0.0 ≡ false = grind (arith, nat_tests) in
          let m : get nat_eq new x ≡ get nat_eq first x = u.0 x ∙ rw t refl in
          rw (m, t') (last (get nat_eq first x))

  pub next_entered : (first new : HashMap ℕ ℕ S) (p : SymId × SymId) (rest others all : List (SymId × SymId)) → IsEntered first rest all → rest ≡ p ∷ others → Enters first new p → IsEntered new others all
  next_entered first new p rest others all g e n = record {
    each = λ x.
        ap (λ o. option_or o (renamed (seen_renaming others) x)) (n.each x)
        ∙ (behind_first p others x (get nat_eq first x)
        ∙ (ap (λ r. option_or (get nat_eq first x) (renamed (seen_renaming r) x)) (sym e) ∙ g.each x));
  }

  pub later : (m n : ℕ) (ren : List (ℕ × ℕ)) (first : HashMap ℕ ℕ S) → Renames m ren first → m ≤ n → Renames n ren first
  later m n ren first r l = record { each = r.each; old = still_old m n ren l r.old }

-- ---- what is put for a name

module _ (t : Table) (is : IsTable t) where
  -- of two names of which one is known, the other a symbol of this number
  same_by_number : (q : QualifiedName) (n x : ℕ) → number_of t.symbols q ≡ Some n → x < length t.symbols → same_name (symbol_at t.symbols x) q ≡ nat_eq n x
  same_by_number q n x e l = by (same_name (symbol_at t.symbols x) q) (nat_eq n x) refl refl
    where
      there : IsSymbol t.symbols n q
      there = number-Some t.symbols q n e

      by : (a b : Bool) → same_name (symbol_at t.symbols x) q ≡ a → nat_eq n x ≡ b → a ≡ b
      by true true f g = refl
      by false false f g = refl
      by true false f g =
          let same : symbol_at t.symbols x ≡ q = (same_name-Decides (symbol_at t.symbols x) q).0 f in
          let here : IsSymbol t.symbols x q = subst (λ (s : QualifiedName). IsSymbol t.symbols x s) same (symbol-at t.symbols x l) in
          let one : n ≡ x = is.distinct n x q there here in
          let no : nat_eq n x ≡ true = grind (arith, nat_tests) in
          cc
      by false true f g =
          let one : n ≡ x = grind (arith, nat_tests) in
          let same : symbol_at t.symbols x ≡ q = rw (sym one) (symbol_at-is t.symbols n q there) in
          let no : same_name (symbol_at t.symbols x) q ≡ true = (same_name-Decides (symbol_at t.symbols x) q).1 same in
          cc

  not_same : (q : QualifiedName) (x : ℕ) → number_of t.symbols q ≡ None → x < length t.symbols → same_name (symbol_at t.symbols x) q ≡ false
  not_same q x e l = by (same_name (symbol_at t.symbols x) q) refl
    where
      by : (a : Bool) → same_name (symbol_at t.symbols x) q ≡ a → same_name (symbol_at t.symbols x) q ≡ false
      by false f = f
      by true f =
          let same : symbol_at t.symbols x ≡ q = (same_name-Decides (symbol_at t.symbols x) q).0 f in
          absurd (number-None t.symbols q x e (subst (λ (s : QualifiedName). IsSymbol t.symbols x s) same (symbol-at t.symbols x l)))

  new_known : (q : QualifiedName) (n : ℕ) (ren : List (ℕ × ℕ)) → number_of t.symbols q ≡ Some n → AreOld (length t.symbols) ren → new_name t.packages ren t.symbols q ≡ renamed ren n
  new_known q n [] e o = refl
  new_known q n (p ∷ ps) e o = by (nat_eq n p.0) refl (new_known q n ps e o.1)
    where
      by : (b : Bool) → nat_eq n p.0 ≡ b → new_name t.packages ps t.symbols q ≡ renamed ps n → new_name t.packages (p ∷ ps) t.symbols q ≡ renamed (p ∷ ps) n
      by true g later = let f : same_name (symbol_at t.symbols p.0) q ≡ true = same_by_number q n p.0 e o.0 ∙ g in rw (f, g) refl
      by false g later = let f : same_name (symbol_at t.symbols p.0) q ≡ false = same_by_number q n p.0 e o.0 ∙ g in rw (f, g) later

  new_unknown : (q : QualifiedName) (ren : List (ℕ × ℕ)) → number_of t.symbols q ≡ None → AreOld (length t.symbols) ren → new_name t.packages ren t.symbols q ≡ None
  new_unknown q [] e o = refl
  new_unknown q (p ∷ ps) e o = let f : same_name (symbol_at t.symbols p.0) q ≡ false = not_same q p.0 e o.0 in rw f (new_unknown q ps e o.1)

pub unknown_name : {S : Type 0} (t : Table) (p : ℕ) (text : List ℕ) (ren : List (ℕ × ℕ)) (first : HashMap ℕ ℕ S) → IsTable t → Renames (length t.symbols) ren first → None ≡ number_in t p text
    → new_name t.packages ren t.symbols (symbol_under t p text) ≡ None
unknown_name t p text ren first is r e = new_unknown t is (symbol_under t p text) ren (sym e) r.old

pub known_name : {S : Type 0} (t : Table) (p n : ℕ) (text : List ℕ) (ren : List (ℕ × ℕ)) (first : HashMap ℕ ℕ S) (o : Option ℕ) → IsTable t → Renames (length t.symbols) ren first → Some n ≡ number_in t p text
    → get nat_eq first n ≡ o → new_name t.packages ren t.symbols (symbol_under t p text) ≡ o
known_name t p n text ren first o is r e g = new_known t is (symbol_under t p text) n ren (sym e) r.old ∙ (sym (r.each n) ∙ g)
