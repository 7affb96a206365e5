-- The values of an export's formals are its arguments, and those of its exec function's.
use Rattle.std.proofs.Common.{◌≡◌, ℕ, suc, List, [], ◌∷◌, map, length, Bool, true, false, refl, sym, ap, ◌∙◌, arith}
use Rattle.std.specs.Prelude.{◌≢◌, ◌||◌, nat_eq, if◌then◌else◌}
use Rattle.std.proofs.lemmas.Bool.Decides.{nat_tests}
use Rattle.model_terms.specs.Worlds.{World, Out, Ordinary}
use Rattle.model_terms.specs.Worlds as worlds
use Rattle.model_terms.specs.Classes.{stobjs, has, repeats}
use Rattle.model_eval_laws.proofs.Lists.{same_number}
use Rattle.model_logic.specs.Logic.{Thing, Values, value_in, bind}
use Rattle.model_accepted.proofs.AcceptLemmas.{neither}
use Rattle.model_stobjs.specs.Abstracts.{with_stobj_named, abstracted}
use Rattle.model_follows.specs.Abstract.{arguments_with}
use Rattle.model_logic_laws.specs.Arguments.{export_values, AreArgumentsOf, FormalsTellArguments}

turned : (a b : ℕ) → nat_eq a b ≡ false → nat_eq b a ≡ false
turned a b e = grind (arith, nat_tests)

-- a variable in front is no matter to others
front : (x : ℕ) (o : Thing) (values : Values) (ys : List ℕ) → has ys x ≡ false → map (value_in ((x, o) ∷ values)) ys ≡ map (value_in values) ys
front x o values [] h = refl
front x o values (y ∷ ys) h =
    let apart : (nat_eq x y ≡ false) × (has ys x ≡ false) = neither (nat_eq x y) (has ys x) h in
    let first : value_in ((x, o) ∷ values) y ≡ value_in values y = ap (λ (t : Bool). if t then o else value_in values y) (turned x y apart.0) in
    rw (first, front x o values ys apart.1) refl

bound_values : (xs : List ℕ) (os : List Thing) (values : Values) → length os ≡ length xs → repeats xs ≡ false → map (value_in (bind xs os values)) xs ≡ os
bound_values [] [] values l r = refl
bound_values [] (o ∷ os) values l r = absurd (omega (arith, l))
bound_values (x ∷ xs) [] values l r = absurd (omega (arith, l))
bound_values (x ∷ xs) (o ∷ os) values l r =
    let apart : (has xs x ≡ false) × (repeats xs ≡ false) = neither (has xs x) (repeats xs) r in
    let first : value_in ((x, o) ∷ bind xs os values) x ≡ o = ap (λ (t : Bool). if t then o else value_in (bind xs os values) x) (same_number x) in
    let others : map (value_in ((x, o) ∷ bind xs os values)) xs ≡ os = front x o (bind xs os values) xs apart.0 ∙ bound_values xs os values (omega (arith, l)) apart.1 in
    rw (first, others) refl

module _ (w : World) (name foundation : ℕ) (values : Values) (c a : Thing) (concrete : value_in values foundation ≡ c) where
  abbrev Logic : List Out → List ℕ → List Thing → Type 0
  Logic ins xs os = map (value_in values) (with_stobj_named w name ins xs) ≡ arguments_with (map (abstracted w name) ins) os a

  exec_values : (ins : List Out) (xs : List ℕ) (os : List Thing) → Logic ins xs os → map (value_in values) (with_stobj_named w foundation ins xs) ≡ arguments_with (map (abstracted w name) ins) os c
  exec_values [] xs os e = refl
  exec_values (Ordinary ∷ ks) [] [] e = refl
  exec_values (Ordinary ∷ ks) [] (o ∷ os) e = cc
  exec_values (worlds.Stobj x ∷ ks) [] os e = cc
  exec_values (Ordinary ∷ ks) (x ∷ xs) [] e = cc
  exec_values (Ordinary ∷ ks) (x ∷ xs) (o ∷ os) e =
      let first : value_in values x ≡ o = cc in
      let rest : Logic ks xs os = cc in
      rw (first, exec_values ks xs os rest) refl
  exec_values (worlds.Stobj z ∷ ks) (x ∷ xs) os e =
      let rest : Logic ks xs os = cc in
      rw (concrete, exec_values ks xs os rest) refl

  -- where a stobj is among the inputs, its name has the abstract list
  name_value : (ins : List Out) (xs : List ℕ) (os : List Thing) → length (with_stobj_named w name ins xs) ≡ length ins → Logic ins xs os → stobjs ins ≢ [] → value_in values name ≡ a
  name_value [] xs os l e n = absurd (n refl)
  name_value (k ∷ ks) [] os l e n = absurd (omega (arith, l))
  name_value (Ordinary ∷ ks) (x ∷ xs) [] l e n = cc
  name_value (Ordinary ∷ ks) (x ∷ xs) (o ∷ os) l e n =
      let rest : Logic ks xs os = cc in
      name_value ks xs os (omega (arith, l)) rest n
  name_value (worlds.Stobj z ∷ ks) (x ∷ xs) os l e n = cc

pub formals_tell_arguments : FormalsTellArguments
formals_tell_arguments = record {
  tell = λ w name foundation ins xs os c a r h l m.
      let formals : List ℕ = with_stobj_named w name ins xs in
      let args : List Thing = arguments_with (map (abstracted w name) ins) os a in
      let values : Values = export_values w name foundation ins xs os c a in
      let concrete : value_in values foundation ≡ c = ap (λ (t : Bool). if t then c else value_in (bind formals args []) foundation) (same_number foundation) in
      let logic : map (value_in values) formals ≡ args = front foundation c (bind formals args []) formals h ∙ bound_values formals args [] l r in
      record { logic = logic; exec = exec_values w name foundation values c a concrete ins xs os logic; concrete = concrete; abstract = name_value w name foundation values c a concrete ins xs os m logic };
}
