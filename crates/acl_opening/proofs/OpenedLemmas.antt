-- Lists of symbols, and the opening world put together.
use Rattle.std.specs.Prelude.{◌≡◌, ℕ, zero, suc, ◌+◌, ◌*◌, ◌-◌, ◌≤◌, List, [], ◌∷◌, ◌++◌, length, map, max, Option, Some, None, nat_eq, position, refl}
use Rattle.std.proofs.Common.{ap, sym, subst, ◌∙◌, arith}
use Rattle.std.proofs.lemmas.List.{map-append, append_assoc}
use Rattle.acl_base.specs.declared.SymId.{SymId}
use Rattle.acl_base.specs.declared.Word.{Word}
use Rattle.model_objects.specs.Object.{Object, Symbol, Pair, weight, max_weight}
use Rattle.model_prims.specs.Rows.{table}
use Rattle.model_expansion.specs.Forms.{list}
use Rattle.model_books.specs.Opening.{primitive_numbers, primitives_named, symbols_from, opening_constants, opening_world}
use Rattle.model_terms.specs.Worlds as worlds
use Rattle.model_terms.specs.Worlds.{World}
use Rattle.acl_heap.specs.Objects.{Objects, object_of, reach, Lies, Denotes, Extends}
use Rattle.acl_heap.specs.declared.HeapFault.{HeapFault}
use Rattle.acl_heap.specs.declared.HeapFault.TheVariants.{TooLarge}
use Rattle.acl_heap.specs.Faults.{RefusedFor}
use Rattle.acl_heap.specs.Growth.{Denotes-later}
use Rattle.acl_terms.specs.declared.definition.Definition.{Definition}
use Rattle.acl_terms.specs.declared.definition.Definition.TheVariants as definition
use Rattle.acl_terms.specs.Definitions.{seen_definition, seen_definitions, definition_reach, definitions_reach, name_in}
use Rattle.acl_terms.specs.Forms.{most}
use Rattle.acl_worlds.specs.Contents.{Content, primitives_from, primitives_world, names_in, number_of, with_definition, seen_world, WorldLies}
use Rattle.acl_opening.specs.Opened.{AreOpening, Listed}

-- ---- lists of symbols

list_weight : (k n : ℕ) → weight (list (symbols_from k n)) ≡ 1 + 2 * n
list_weight k zero = refl
list_weight k (suc n) = let e : weight (list (symbols_from (k + 1) n)) ≡ 1 + 2 * n = list_weight (k + 1) n in omega (arith, e)

-- it is not too heavy for a value
pub light : (h : Objects) (w : Word) (end done : ℕ) (s : ℕ) → done + 1 ≤ end → end ≤ 195 → Listed h w end done → weight (Pair (Symbol s) (object_of h w)) ≤ max_weight
light h w end done s more few l =
    let e : weight (list (symbols_from (end - done) done)) ≡ 1 + 2 * done = list_weight (end - done) done in
    let f : weight (object_of h w) ≡ 1 + 2 * done = ap weight l.is ∙ e in
    omega (arith, f, more, few)

pub too_large : (h : Objects) (w : Word) (end done s k : ℕ) (e : HeapFault) → done + 1 ≤ end → end ≤ 195 → Listed h w end done → e ≡ TooLarge k
    → RefusedFor (weight (Pair (Symbol s) (object_of h w))) e → ⊥
too_large h w end done s k e more few l is told =
    let most : weight (Pair (Symbol s) (object_of h w)) ≤ max_weight = light h w end done s more few l in
    let both : RefusedFor (weight (Pair (Symbol s) (object_of h w))) (TooLarge k) = subst (λ f. RefusedFor (weight (Pair (Symbol s) (object_of h w))) f) is told in
    omega (arith, most, both.1)

step : (end done : ℕ) → done + 1 ≤ end → Pair (Symbol ((end - 1) - done)) (list (symbols_from (end - done) done)) ≡ list (symbols_from (end - (done + 1)) (done + 1))
step end done l =
    let a : (end - 1) - done ≡ end - (done + 1) = omega arith in
    let b : end - done ≡ (end - (done + 1)) + 1 = omega (arith, l) in
    let c : done + 1 ≡ suc done = omega arith in
    rw (a, b) (ap (λ n. list (symbols_from (end - (done + 1)) n)) (sym c))

pub one_more : (h h' : Objects) (w v : Word) (end done : ℕ) → done + 1 ≤ end → Listed h w end done
    → Denotes h' v (Pair (Symbol ((end - 1) - done)) (object_of h w)) → Listed h' v end (done + 1)
one_more h h' w v end done l r d = record { lies = d.lies; is = d.is ∙ (ap (λ o. Pair (Symbol ((end - 1) - done)) o) r.is ∙ step end done l) }

-- ---- the world

reach_push : (ds : List Definition) (d : Definition) (n : ℕ) → definitions_reach ds ≤ n → definition_reach d ≤ n → definitions_reach (ds ++ d ∷ []) ≤ n
reach_push [] d n l k = omega (arith, k)
reach_push (e ∷ ds) d n l k = let r : definitions_reach (ds ++ d ∷ []) ≤ n = reach_push ds d n (omega (arith, l)) k in omega (arith, l, r)

module _ (ps : List (SymId × ℕ)) (are : AreOpening ps) where
  pub exports_fresh : number_of (primitives_world ps) 165 ≡ None
  exports_fresh = ap (position (nat_eq 165)) are.names

  pub main_fresh : (x : SymId) (e : Word) → x.0 ≡ 165 → number_of (with_definition (primitives_world ps) (definition.Constant x e)) 166 ≡ None
  main_fresh x e is =
      ap (position (nat_eq 166)) (map-append name_in (primitives_from 0 ps) (definition.Constant x e ∷ []) ∙ (ap (λ n. names_in (primitives_from 0 ps) ++ n ∷ []) is ∙ ap (λ ns. ns ++ 165 ∷ []) are.names))

  module _ (h h' : Objects) (x y : SymId) (e m : Word) (later : Extends h h') (is_x : x.0 ≡ 165) (is_y : y.0 ≡ 166)
      (d : Denotes h e (list (symbols_from (195 - 76) 76))) (f : Denotes h' m (list (symbols_from (119 - 119) 119))) where
    both_seen : seen_definitions h' ((primitives_from 0 ps ++ definition.Constant x e ∷ []) ++ definition.Constant y m ∷ [])
        ≡ (primitives_named primitive_numbers table ++ seen_definition h' (definition.Constant x e) ∷ []) ++ seen_definition h' (definition.Constant y m) ∷ []
    both_seen =
        map-append (seen_definition h') (primitives_from 0 ps ++ definition.Constant x e ∷ []) (definition.Constant y m ∷ [])
        ∙ ap (λ (ds : World). ds ++ seen_definition h' (definition.Constant y m) ∷ [])
        (map-append (seen_definition h') (primitives_from 0 ps) (definition.Constant x e ∷ []) ∙ ap (λ (ds : World). ds ++ seen_definition h' (definition.Constant x e) ∷ []) (are.seen h'))

    constants_seen : (a b : ℕ) (p q : Object ℕ) → a ≡ 165 → b ≡ 166 → p ≡ list (symbols_from (195 - 76) 76) → q ≡ list (symbols_from (119 - 119) 119)
        → (primitives_named primitive_numbers table ++ worlds.Constant a p ∷ []) ++ worlds.Constant b q ∷ [] ≡ opening_world
    unfolding opening_world
    constants_seen a b p q ea eb ep eq = rw (ea, eb, ep, eq) (append_assoc (primitives_named primitive_numbers table) (worlds.Constant 165 (list (symbols_from (195 - 76) 76)) ∷ []) (worlds.Constant 166 (list (symbols_from (119 - 119) 119)) ∷ []))

    pub opened : seen_world h' (with_definition (with_definition (primitives_world ps) (definition.Constant x e)) (definition.Constant y m)) ≡ opening_world
    opened = both_seen ∙ constants_seen x.0 y.0 (object_of h' e) (object_of h' m) is_x is_y (Denotes-later d later).is f.is

    pub opened_lies : WorldLies h' (with_definition (with_definition (primitives_world ps) (definition.Constant x e)) (definition.Constant y m))
    opened_lies =
        let none : definitions_reach (primitives_from 0 ps) ≤ length h' = omega (arith, are.reach) in
        let a : reach e ≤ length h' = (Denotes-later d later).lies in
        let b : reach m ≤ length h' = f.lies in
        reach_push (primitives_from 0 ps ++ definition.Constant x e ∷ []) (definition.Constant y m) (length h') (reach_push (primitives_from 0 ps) (definition.Constant x e) (length h') none a) b
