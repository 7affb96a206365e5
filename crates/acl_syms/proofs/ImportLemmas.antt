-- Imports gone through one by one: what a map knows of them, and where two clash.
use Rattle.std.specs.Prelude.{◌≡◌, ◌≢◌, ℕ, zero, suc, ◌+◌, ◌<◌, List, [], ◌∷◌, ◌++◌, length, Bool, true, false, not, ◌&&◌, Option, Some, None, slice_get, take, drop, refl, if◌then◌else◌}
use Rattle.std.proofs.Common.{get_or, sym, ap, ◌∙◌, subst, true≢false, inl, inr}
use Rattle.std.specs.HashMap.{HashMap, get_by}
use Rattle.std.specs.Map.{lookup}
use Rattle.std.specs.Option.{option_and_then, option_or}
use Rattle.std.specs.Str.{bytes_eq}
use Rattle.std.proofs.lemmas.List.{take_more, drop_more, take-append-drop}
use Rattle.std.proofs.lemmas.Option.{slice_get_within}
use Rattle.std.proofs.lemmas.Slice.Eq.{bytes_eq-Decides}
use Rattle.model_symbols.specs.Symbols.{QualifiedName, same_name, symbol_at, number_of, import_of, clash_with, clash_or, clash_from, import_clash}
use Rattle.model_symbols.specs.Growth.{IsSymbol, AreDistinct}
use Rattle.model_symbols.specs.Tables.{symbols_at}
use Rattle.model_symbols.proofs.Positions.{slice_get-push}
use Rattle.model_symbols.proofs.NameLemmas.{same_name-Decides, number-Some, number-known, import-Some, symbol-at, symbol_at-is}
use Rattle.acl_syms.specs.Fields.{Learns}
use Rattle.acl_base.specs.declared.SymId.{SymId}
use Rattle.acl_syms.specs.Answers.{numbers, AreKnown}
use Rattle.acl_syms.specs.Imports.{import_number, Gathers, Enters, EnterFault, GatherFault}
use Rattle.acl_syms.specs.declared.SymFault.{SymFault}
use Rattle.acl_syms.specs.declared.SymFault.TheVariants.{UnknownPackage, TooMany, PackageExists, ImportClash, Memory}

or_none : (o : Option QualifiedName) → option_or o None ≡ o
or_none None = refl
or_none (Some t) = refl

-- ---- the import of a name, with one import more

import-push : (ss : List QualifiedName) (s : QualifiedName) (name : List ℕ) → import_of (ss ++ s ∷ []) name ≡ option_or (import_of ss name) (if bytes_eq name s.name then Some s else None)
import-push [] s name = refl
import-push (t ∷ ss) s name = go (bytes_eq name t.name) (import-push ss s name)
  where
    go : (b : Bool) → import_of (ss ++ s ∷ []) name ≡ option_or (import_of ss name) (if bytes_eq name s.name then Some s else None)
        → (if b then Some t else import_of (ss ++ s ∷ []) name) ≡ option_or (if b then Some t else import_of ss name) (if bytes_eq name s.name then Some s else None)
    go true h = refl
    go false h = h

import-None : (ss : List QualifiedName) (name : List ℕ) (k : ℕ) (s : QualifiedName) → import_of ss name ≡ None → slice_get ss k ≡ Some s → s.name ≡ name → ⊥
import-None [] name k s h g e = cc
import-None (t ∷ ss) name k s h g e = go k (bytes_eq name t.name) refl g h (λ j. import-None ss name j s)
  where
    go : (k : ℕ) (b : Bool) → bytes_eq name t.name ≡ b → slice_get (t ∷ ss) k ≡ Some s → (if b then Some t else import_of ss name) ≡ None
        → ((j : ℕ) → import_of ss name ≡ None → slice_get ss j ≡ Some s → s.name ≡ name → ⊥) → ⊥
    go k true p g h rest = cc
    go zero false p g h rest =
        let q : t ≡ s = cc in
        true≢false (sym ((bytes_eq-Decides name t.name).1 (sym (ap (λ (x : QualifiedName). x.name) q ∙ e))) ∙ p)
    go (suc j) false p g h rest = rest j h g e

-- ---- clashes

-- no import of the name but the symbol itself
clash_with-None : (ss : List QualifiedName) (s : QualifiedName) → ((k : ℕ) (t : QualifiedName) → slice_get ss k ≡ Some t → t.name ≡ s.name → t ≡ s) → clash_with ss s ≡ None
clash_with-None [] s h = refl
clash_with-None (t ∷ ss) s h = go (bytes_eq s.name t.name) (same_name s t) refl refl (clash_with-None ss s (λ k u g e. h (suc k) u g e))
  where
    go : (a b : Bool) → bytes_eq s.name t.name ≡ a → same_name s t ≡ b → clash_with ss s ≡ None → (if a && not b then Some t else clash_with ss s) ≡ None
    go false b p q rest = rest
    go true true p q rest = rest
    go true false p q rest =
        let e : s ≡ t = sym (h 0 t refl (sym ((bytes_eq-Decides s.name t.name).0 p))) in
        absurd (true≢false (sym ((same_name-Decides s t).1 e) ∙ q))

-- the first of the name is another
clash_with-Some : (ss : List QualifiedName) (s t : QualifiedName) → import_of ss s.name ≡ Some t → (t ≡ s → ⊥) → clash_with ss s ≡ Some t
clash_with-Some [] s t h n = cc
clash_with-Some (u ∷ ss) s t h n = go (bytes_eq s.name u.name) (same_name s u) refl refl h (λ g. clash_with-Some ss s t g n)
  where
    go : (a b : Bool) → bytes_eq s.name u.name ≡ a → same_name s u ≡ b → (if a then Some u else import_of ss s.name) ≡ Some t → (import_of ss s.name ≡ Some t → clash_with ss s ≡ Some t)
        → (if a && not b then Some u else clash_with ss s) ≡ Some t
    go false b p q g rest = rest g
    go true false p q g rest = g
    go true true p q g rest = let e : u ≡ t = cc in absurd (n (sym e ∙ sym ((same_name-Decides s u).0 q)))

or_later : (o : Option QualifiedName) (s : QualifiedName) (later : Option (QualifiedName × QualifiedName)) → clash_or o s later ≡ None → (o ≡ None) × (later ≡ None)
or_later (Some t) s later h = cc
or_later None s later h = (refl, h)

append_one : (xs : List QualifiedName) (s : QualifiedName) (ys : List QualifiedName) → (xs ++ s ∷ []) ++ ys ≡ xs ++ s ∷ ys
append_one [] s ys = refl
append_one (x ∷ xs) s ys = ap (λ (l : List QualifiedName). x ∷ l) (append_one xs s ys)

append_none : (xs : List QualifiedName) → xs ++ [] ≡ xs
append_none [] = refl
append_none (x ∷ xs) = ap (λ (l : List QualifiedName). x ∷ l) (append_none xs)

-- past imports without a clash the next one decides
clash_from-next : (seen xs : List QualifiedName) (s : QualifiedName) (rest : List QualifiedName) → clash_from seen xs ≡ None
    → clash_from seen (xs ++ s ∷ rest) ≡ clash_or (clash_with (seen ++ xs) s) s (clash_from ((seen ++ xs) ++ s ∷ []) rest)
clash_from-next seen [] s rest h = ap (λ (l : List QualifiedName). clash_or (clash_with l s) s (clash_from (l ++ s ∷ []) rest)) (sym (append_none seen))
clash_from-next seen (x ∷ xs) s rest h =
    let p = or_later (clash_with seen x) x (clash_from (seen ++ x ∷ []) xs) h in
    ap (λ o. clash_or o x (clash_from (seen ++ x ∷ []) (xs ++ s ∷ rest))) p.0
    ∙ (clash_from-next (seen ++ x ∷ []) xs s rest p.1
    ∙ ap (λ (l : List QualifiedName). clash_or (clash_with l s) s (clash_from (l ++ s ∷ []) rest)) (append_one seen x xs))

pub clash-next : (xs : List QualifiedName) (s : QualifiedName) → import_clash xs ≡ None → clash_with xs s ≡ None → import_clash (xs ++ s ∷ []) ≡ None
clash-next xs s h g = clash_from-next [] xs s [] h ∙ ap (λ o. clash_or o s None) g

pub clash-found : (xs : List QualifiedName) (s t : QualifiedName) (rest : List QualifiedName) → import_clash xs ≡ None → clash_with xs s ≡ Some t → import_clash (xs ++ s ∷ rest) ≡ Some (t, s)
clash-found xs s t rest h g = clash_from-next [] xs s rest h ∙ ap (λ o. clash_or o s (clash_from (xs ++ s ∷ []) rest)) g

-- ---- one import more

and_then : {A : Type 0} (f : A → Option ℕ) (o : Option A) (n : ℕ) → option_and_then f o ≡ Some n → (x : A) × (o ≡ Some x) × (f x ≡ Some n)
and_then f None n h = cc
and_then f (Some x) n h = (x, refl, h)

and_then_none : {A : Type 0} (f : A → Option ℕ) (o : Option A) → option_and_then f o ≡ None → ((x : A) → o ≡ Some x → f x ≡ None → ⊥) → o ≡ None
and_then_none f None h k = refl
and_then_none f (Some x) h k = absurd (k x refl h)

none_some : {X : Type 0} {x : X} → Some x ≡ None → ⊥
none_some h = cc

some_is : {X : Type 0} {x y : X} → Some x ≡ Some y → x ≡ y
some_is h = cc

module _ {K S : Type 0} (items : K → List ℕ) (symbols seen : List QualifiedName) (distinct : AreDistinct symbols) (old : HashMap K ℕ S) (g : Gathers items symbols seen old) (n : ℕ) (s : QualifiedName) (at : IsSymbol symbols n s) where
  number : number_of symbols s ≡ Some n
  number = number-known symbols s n distinct at

  known-push : (k : ℕ) (u : QualifiedName) → slice_get (seen ++ s ∷ []) k ≡ Some u → (m : ℕ) × (number_of symbols u ≡ Some m)
  known-push k u h = elim (slice_get-push seen s k u h) [ inl a ↦ g.known k u a | inr b ↦ (n, ap (number_of symbols) b.1 ∙ number) ]

  -- the import of a name that the map knows
  pub known_import : (m : ℕ) → get_by (λ k. bytes_eq s.name (items k)) old ≡ Some m → (t : QualifiedName) × (import_of seen s.name ≡ Some t) × (number_of symbols t ≡ Some m)
  known_import m h = and_then (number_of symbols) (import_of seen s.name) m (sym (g.knows s.name) ∙ h)

  -- the same symbol again
  pub gathers_again : get_by (λ k. bytes_eq s.name (items k)) old ≡ Some n → Gathers items symbols (seen ++ s ∷ []) old
  gathers_again h =
      let k = known_import n h in
      let e : k.0 ≡ s = some_is (sym (number-Some symbols k.0 n k.2) ∙ at) in
      let here : import_of seen s.name ≡ Some s = k.1 ∙ ap Some e in
      let same = λ (name : List ℕ). import-push seen s name ∙ kept name here (bytes_eq name s.name) refl (import_of seen name) refl in
      record {
        knows = λ name. g.knows name ∙ ap (option_and_then (number_of symbols)) (sym (same name));
        known = known-push;
        free = λ j u q. elim (slice_get-push seen s j u q) [
          | inl a ↦ same u.name ∙ g.free j u a
          | inr b ↦ same u.name ∙ (ap (λ (x : QualifiedName). import_of seen x.name) b.1 ∙ (here ∙ ap Some (sym b.1)))
        ];
        no_clash = clash-next seen s g.no_clash (clash_with-None seen s (λ j u q p. some_is (sym (g.free j u q) ∙ (ap (import_of seen) p ∙ here))));
      }
    where
      kept : (name : List ℕ) → import_of seen s.name ≡ Some s → (b : Bool) → bytes_eq name s.name ≡ b → (o : Option QualifiedName) → import_of seen name ≡ o → option_or o (if b then Some s else None) ≡ o
      kept name here b p (Some t) q = refl
      kept name here false p None q = refl
      kept name here true p None q = absurd (none_some (sym here ∙ (ap (import_of seen) (sym ((bytes_eq-Decides name s.name).0 p)) ∙ q)))

  -- a symbol of a new name
  pub gathers_new : (new : HashMap K ℕ S) → get_by (λ k. bytes_eq s.name (items k)) old ≡ None → Learns items old new s.name n → Gathers items symbols (seen ++ s ∷ []) new
  gathers_new new h learnt =
      let none : import_of seen s.name ≡ None = and_then_none (number_of symbols) (import_of seen s.name) (sym (g.knows s.name) ∙ h)
      (λ t p q. let f = import-Some seen s.name t p in none_some (sym (g.known f.0 t f.1).1 ∙ q)) in
      record {
        knows = λ name. learnt name ∙ step name none (bytes_eq name s.name) refl;
        known = known-push;
        free = λ j u q. elim (slice_get-push seen s j u q) [
          | inl a ↦ import-push seen s u.name ∙ ap (λ o. option_or o (if bytes_eq u.name s.name then Some s else None)) (g.free j u a)
          | inr b ↦
              ap (λ (x : QualifiedName). import_of (seen ++ s ∷ []) x.name) b.1
              ∙ (import-push seen s s.name
              ∙ (ap (λ o. option_or o (if bytes_eq s.name s.name then Some s else None)) none
              ∙ (ap (λ c. if c then Some s else None) ((bytes_eq-Decides s.name s.name).1 refl) ∙ ap Some (sym b.1))))
        ];
        no_clash = clash-next seen s g.no_clash (clash_with-None seen s (λ j u q p. absurd (import-None seen s.name j u none q p)));
      }
    where
      step : (name : List ℕ) → import_of seen s.name ≡ None → (b : Bool) → bytes_eq name s.name ≡ b → (if b then Some n else get_by (λ k. bytes_eq name (items k)) old) ≡ import_number symbols (seen ++ s ∷ []) name
      step name none true p =
          let e : name ≡ s.name = (bytes_eq-Decides name s.name).0 p in
          sym (ap (option_and_then (number_of symbols)) (import-push seen s name
          ∙ (ap (λ o. option_or o (if bytes_eq name s.name then Some s else None)) (ap (import_of seen) e ∙ none) ∙ ap (λ c. if c then Some s else None) p)) ∙ number)
      step name none false p =
          g.knows name
          ∙ ap (option_and_then (number_of symbols)) (sym (import-push seen s name ∙ (ap (λ c. option_or (import_of seen name) (if c then Some s else None)) p ∙ or_none (import_of seen name))))

  pub gathers_entered : (new : HashMap K ℕ S) → Enters items old new s.name n → Gathers items symbols (seen ++ s ∷ []) new
  gathers_entered new (inl a) = subst (Gathers items symbols (seen ++ s ∷ [])) (sym a.1) (gathers_again a.0)
  gathers_entered new (inr b) = gathers_new new b.0 b.1

  -- another symbol of the name
  pub clashes : (m : ℕ) (rest : List QualifiedName) → get_by (λ k. bytes_eq s.name (items k)) old ≡ Some m → m ≢ n → (IsSymbol symbols m (symbol_at symbols m)) × (import_clash (seen ++ s ∷ rest) ≡ Some (symbol_at symbols m, s))
  clashes m rest h apart =
      let k = known_import m h in
      let there = number-Some symbols k.0 m k.2 in
      let e : symbol_at symbols m ≡ k.0 = symbol_at-is symbols m k.0 there in
      let other : k.0 ≡ s → ⊥ = λ q. apart (some_is (sym k.2 ∙ (ap (number_of symbols) q ∙ number))) in
      (there ∙ ap Some (sym e), clash-found seen s k.0 rest g.no_clash (clash_with-Some seen s k.0 k.1 other) ∙ ap (λ (x : QualifiedName). Some (x, s)) (sym e))

-- nothing gone through
pub gathers_nothing : {K S : Type 0} (items : K → List ℕ) (symbols : List QualifiedName) (known : HashMap K ℕ S) → known.entries ≡ [] → Gathers items symbols [] known
gathers_nothing items symbols known e = record {
  knows = λ name. ap (λ es. lookup (λ k. bytes_eq name (items k)) es) e;
  known = λ k s h. cc;
  free = λ k s h. cc;
  no_clash = refl;
}

-- ---- a step through a list of imports

symbols_at-push : (symbols : List QualifiedName) (ids : List SymId) (s : SymId) → symbols_at symbols (numbers (ids ++ s ∷ [])) ≡ symbols_at symbols (numbers ids) ++ symbol_at symbols s.0 ∷ []
symbols_at-push symbols [] s = refl
symbols_at-push symbols (i ∷ ids) s = ap (λ (l : List QualifiedName). symbol_at symbols i.0 ∷ l) (symbols_at-push symbols ids s)

symbols_at-append : (symbols : List QualifiedName) (ids more : List SymId) (s : SymId) → symbols_at symbols (numbers (ids ++ s ∷ more)) ≡ symbols_at symbols (numbers ids) ++ symbol_at symbols s.0 ∷ symbols_at symbols (numbers more)
symbols_at-append symbols [] more s = refl
symbols_at-append symbols (i ∷ ids) more s = ap (λ (l : List QualifiedName). symbol_at symbols i.0 ∷ l) (symbols_at-append symbols ids more s)

module _ {K S : Type 0} (items : K → List ℕ) (symbols : List QualifiedName) (distinct : AreDistinct symbols) (ids : List SymId) (are : AreKnown symbols ids) (i : ℕ) (low : i < length ids) (d : SymId)
    (old : HashMap K ℕ S) (g : Gathers items symbols (symbols_at symbols (numbers (take i ids))) old) where
  there : IsSymbol symbols (get_or ids i d).0 (symbol_at symbols (get_or ids i d).0)
  there = symbol-at symbols (get_or ids i d).0 (are i d low)

  pub gather_more : (new : HashMap K ℕ S) → Enters items old new (symbol_at symbols (get_or ids i d).0).name (get_or ids i d).0 → Gathers items symbols (symbols_at symbols (numbers (take (i + 1) ids))) new
  gather_more new h =
      let s = get_or ids i d in
      subst (λ (l : List QualifiedName). Gathers items symbols l new)
      (sym (ap (λ (l : List SymId). symbols_at symbols (numbers l)) (take_more ids i d low) ∙ symbols_at-push symbols (take i ids) s))
      (gathers_entered items symbols (symbols_at symbols (numbers (take i ids))) distinct old g s.0 (symbol_at symbols s.0) there new h)

  pub gather_fault : (e : SymFault) → EnterFault items old (symbol_at symbols (get_or ids i d).0).name (get_or ids i d) e → GatherFault symbols ids e
  gather_fault UnknownPackage h = h
  gather_fault TooMany h = h
  gather_fault PackageExists h = h
  gather_fault (ImportClash first second) h =
      let s = get_or ids i d in
      let rest = symbols_at symbols (numbers (drop (i + 1) ids)) in
      let c = clashes items symbols (symbols_at symbols (numbers (take i ids))) distinct old g s.0 (symbol_at symbols s.0) there first.0 rest h.0 h.1 in
      let whole : ids ≡ take i ids ++ s ∷ drop (i + 1) ids = sym (take-append-drop i ids) ∙ ap (λ (l : List SymId). take i ids ++ l) (drop_more ids i d low) in
      let e : symbols_at symbols (numbers ids) ≡ symbols_at symbols (numbers (take i ids)) ++ symbol_at symbols s.0 ∷ rest =
      ap (λ (l : List SymId). symbols_at symbols (numbers l)) whole ∙ symbols_at-append symbols (take i ids) (drop (i + 1) ids) s in (
        ap import_clash e ∙ (c.1 ∙ ap (λ (t : SymId). Some (symbol_at symbols first.0, symbol_at symbols t.0)) (sym h.2)),
        slice_get_within symbols first.0 (symbol_at symbols first.0) c.0,
        subst (λ (t : SymId). t.0 < length symbols) (sym h.2) (are i d low),
      )
  gather_fault Memory h = tt
