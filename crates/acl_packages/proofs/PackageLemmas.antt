-- The definition of a package.
use Rattle.std.specs.Prelude.{◌≡◌, ℕ, ℤ, ◌<◌, List, [], ◌∷◌, length, map, Bool, true, false, Option, Some, None, is_some, unwrap_or, option_map, option_and_then, nat_eq, refl, if◌then◌else◌}
use Rattle.std.specs.Option.{option_or}
use Rattle.std.specs.List.{All}
use Rattle.std.proofs.Common.{sym, ap, ◌∙◌, subst}
use Rattle.std.proofs.lemmas.List.Elements.{All-cons, All-nil}
use Rattle.model_objects.specs.Object.{Object, Integer, Symbol, Text, Pair}
use Rattle.model_objects.specs.Named.{Knows}
use Rattle.model_symbols.specs.Symbols.{QualifiedName, Package, Table, symbol_at, number_of, package_number, import_clash}
use Rattle.model_symbols.specs.Tables.{IsTable, with_package, symbols_at}
use Rattle.model_symbols.proofs.NameLemmas.{number-known, symbol-at}
use Rattle.model_expansion.specs.Words.{defpkg_word}
use Rattle.model_expansion.specs.Forms.{elements, each, each_of, symbol, text}
use Rattle.model_expansion.specs.Faults as faults
use Rattle.model_expansion.specs.Faults.{Refusal}
use Rattle.model_expansion.specs.Expansion.{Progress}
use Rattle.model_stobjs.specs.Answers as answer
use Rattle.model_stobjs.specs.Answers.{unless, needing}
use Rattle.model_events.specs.Constants.{name_and_form, text_and_form_of, text_and_form, package_of, importing}
use Rattle.acl_base.specs.declared.SymId.{SymId}
use Rattle.acl_heap.specs.Objects.{Objects}
use Rattle.acl_syms.specs.Answers.{CanTake, AreKnown, package_with, numbers}
use Rattle.acl_packages.specs.declared.fault.PackageFault.{PackageFault}
use Rattle.acl_packages.specs.declared.fault.PackageFault.TheVariants as fault
use Rattle.acl_packages.specs.Packages.{bytes_in, knowing, GrantsImports, RefusesImports, GrantsPackage, RefusesPackage, Told}

-- ---- as it is written

pub no_parts : (o : Option (Object ℕ × Object ℕ)) → o ≡ None → option_and_then text_and_form_of o ≡ None
no_parts o e = rw e refl

pub text_there : (o : Object ℕ) (bytes : List ℕ) → o ≡ Text bytes → bytes_in o ≡ bytes
text_there o bytes e = rw e refl

pub text_named : (o : Option (Object ℕ × Object ℕ)) (name form : Object ℕ) (bytes : List ℕ) → o ≡ Some (name, form) → name ≡ Text bytes → option_and_then text_and_form_of o ≡ Some (bytes_in name, form)
text_named o name form bytes e f = rw (e, f) refl

pub symbol_named : (o : Option (Object ℕ × Object ℕ)) (name form : Object ℕ) (s : ℕ) → o ≡ Some (name, form) → name ≡ Symbol s → option_and_then text_and_form_of o ≡ None
symbol_named o name form s e f = rw (e, f) refl

pub integer_named : (o : Option (Object ℕ × Object ℕ)) (name form : Object ℕ) (n : ℤ) → o ≡ Some (name, form) → name ≡ Integer n → option_and_then text_and_form_of o ≡ None
integer_named o name form n e f = rw (e, f) refl

pub pair_named : (o : Option (Object ℕ × Object ℕ)) (name form a d : Object ℕ) → o ≡ Some (name, form) → name ≡ Pair a d → option_and_then text_and_form_of o ≡ None
pair_named o name form a d e f = rw (e, f) refl

-- ---- imports

module _ (t : Table) (ids : List SymId) where
  pub imports_granted : (name : List ℕ) (o : Object ℕ) (new : Table) → o ≡ Text name → CanTake t name ids → new ≡ with_package t (package_with t.symbols name ids) → GrantsImports t (bytes_in o) (numbers ids) new
  imports_granted name o new e c f = subst (λ bs. GrantsImports t bs (numbers ids) new) (sym (text_there o name e)) (record { made = package_with t.symbols name ids; is = λ p. rw (c.fresh, c.no_clash) refl; table = f })

  pub exists_refused : (name : List ℕ) (o : Object ℕ) → o ≡ Text name → (n : ℕ) × (package_number t.packages name ≡ Some n) → RefusesImports t (bytes_in o) (numbers ids) (faults.PackageExists o)
  exists_refused name o e k =
      subst (λ bs. RefusesImports t bs (numbers ids) (faults.PackageExists o)) (sym (text_there o name e))
      (subst (λ x. RefusesImports t name (numbers ids) (faults.PackageExists x)) (sym e) (record { is = λ p. rw k.1 refl }))

  numbered : (n : ℕ) → IsTable t → n < length t.symbols → number_of t.symbols (symbol_at t.symbols n) ≡ Some n
  numbered n i l = number-known t.symbols (symbol_at t.symbols n) n i.distinct (symbol-at t.symbols n l)

  pub clash_refused : (name : List ℕ) (o : Object ℕ) (a b : ℕ) → o ≡ Text name → IsTable t
      → (package_number t.packages name ≡ None) × (import_clash (symbols_at t.symbols (numbers ids)) ≡ Some (symbol_at t.symbols a, symbol_at t.symbols b)) × (a < length t.symbols) × (b < length t.symbols)
      → RefusesImports t (bytes_in o) (numbers ids) (faults.ImportClash a b)
  clash_refused name o a b e i k =
      subst (λ bs. RefusesImports t bs (numbers ids) (faults.ImportClash a b)) (sym (text_there o name e))
      (record { is = λ p. rw (k.0, k.1, numbered a i k.2, numbered b i k.3) refl })

-- ---- a value

module _ (n : ℕ) where
  abbrev AllKnown : List (Object ℕ) → Type 0
  AllKnown [] = Unit {0}
  AllKnown (o ∷ os) = Knows n o × AllKnown os

  elements_known : (o : Object ℕ) (os : List (Object ℕ)) → elements o ≡ Some os → Knows n o → AllKnown os
  elements_known (Integer i) os e k = cc
  elements_known (Symbol s) os e k = by (nat_eq s 1) e
    where
      by : (b : Bool) → (if b then Some [] else None) ≡ Some os → AllKnown os
      by true e = let q : [] ≡ os = cc in subst AllKnown q tt
      by false e = cc
  elements_known (Text bytes) os e k = cc
  elements_known (Pair a d) os e k = by (elements d) refl e (elements_known d)
    where
      by : (x : Option (List (Object ℕ))) → elements d ≡ x → option_map (λ ys. a ∷ ys) x ≡ Some os → ((ys : List (Object ℕ)) → elements d ≡ Some ys → Knows n d → AllKnown ys) → AllKnown os
      by None f e later = cc
      by (Some ys) f e later = let q : a ∷ ys ≡ os = cc in subst AllKnown q (k.0, later ys f k.1)

  abbrev AllBelow : List SymId → Type 0
  AllBelow ids = All (λ (s : SymId). s.0 < n) ids

  joined : (s : ℕ) (ys : List ℕ) (ids : List SymId) → s ∷ ys ≡ numbers ids → s < n → ((xs : List SymId) → ys ≡ numbers xs → AllBelow xs) → AllBelow ids
  joined s ys [] e l later = cc
  joined s ys (x ∷ xs) e l later =
      let f : s ≡ x.0 = cc in
      let g : ys ≡ numbers xs = cc in
      All-cons (λ (s : SymId). s.0 < n) x xs (subst (λ m. m < n) f l) (later xs g)

  symbols_below : (os : List (Object ℕ)) (ids : List SymId) → each symbol os ≡ Some (numbers ids) → AllKnown os → AllBelow ids
  symbols_below [] [] e k = All-nil (λ (s : SymId). s.0 < n)
  symbols_below [] (x ∷ ids) e k = cc
  symbols_below (Integer i ∷ os) ids e k = cc
  symbols_below (Text bytes ∷ os) ids e k = cc
  symbols_below (Pair a d ∷ os) ids e k = cc
  symbols_below (Symbol s ∷ os) ids e k = by (each symbol os) refl e (symbols_below os)
    where
      by : (x : Option (List ℕ)) → each symbol os ≡ x → option_map (λ ys. s ∷ ys) x ≡ Some (numbers ids) → ((xs : List SymId) → each symbol os ≡ Some (numbers xs) → AllKnown os → AllBelow xs) → AllBelow ids
      by None f e later = cc
      by (Some ys) f e later = let q : s ∷ ys ≡ numbers ids = cc in joined s ys ids q k.0 (λ xs g. later xs (f ∙ ap (λ zs. Some zs) g) k.1)

  pub all_known : (o : Object ℕ) (ids : List SymId) → each_of symbol o ≡ Some (numbers ids) → Knows n o → AllBelow ids
  all_known o ids e k = by (elements o) refl e
    where
      by : (x : Option (List (Object ℕ))) → elements o ≡ x → option_and_then (each symbol) x ≡ Some (numbers ids) → AllBelow ids
      by None f e = cc
      by (Some os) f e = symbols_below os ids e (elements_known o os f k)

module _ (t : Table) (name : List ℕ) (value : Object ℕ) where
  abbrev from : Option (List ℕ) → Progress → answer.EventResult Package
  from o p = needing o (faults.Expand (faults.BadShape defpkg_word)) (λ numbers after. package_of t.packages name (map (symbol_at after.symbols) numbers) after) p

  pub shape_refused : each_of symbol value ≡ None → RefusesPackage t name value (faults.Expand (faults.BadShape defpkg_word))
  shape_refused e = record { is = λ p. ap (λ o. from o (knowing t p)) e }

  pub package_granted : (ids : List SymId) (xs : List SymId) (new : Table) → each_of symbol value ≡ Some (numbers ids) → xs ≡ ids → GrantsImports t name (numbers xs) new → GrantsPackage t name value new
  package_granted ids xs new e f g = record { made = g.made; is = λ p. ap (λ o. from o (knowing t p)) (e ∙ ap (λ ys. Some (numbers ys)) (sym f)) ∙ g.is p; table = g.table }

  imports_refused : (xs : List ℕ) (r : Refusal) → each_of symbol value ≡ Some xs → RefusesImports t name xs r → RefusesPackage t name value r
  imports_refused xs r e g = record { is = λ p. ap (λ o. from o (knowing t p)) e ∙ g.is p }

  pub package_refused : (h : Objects) (ids xs : List SymId) (f : PackageFault) → each_of symbol value ≡ Some (numbers ids) → xs ≡ ids → Told h (RefusesImports t name (numbers xs)) f → Told h (RefusesPackage t name value) f
  package_refused h ids xs fault.BadShape e i g = imports_refused (numbers xs) _ (e ∙ ap (λ ys. Some (numbers ys)) (sym i)) g
  package_refused h ids xs (fault.PackageExists w) e i g = imports_refused (numbers xs) _ (e ∙ ap (λ ys. Some (numbers ys)) (sym i)) g
  package_refused h ids xs (fault.ImportClash first second) e i g = imports_refused (numbers xs) _ (e ∙ ap (λ ys. Some (numbers ys)) (sym i)) g
  package_refused h ids xs fault.Memory e i g = tt
