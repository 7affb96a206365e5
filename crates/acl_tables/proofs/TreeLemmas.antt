-- Where a table holds the trees of a world, it holds those of the world with functions.
use Rattle.std.specs.Prelude.{◌≡◌, ℕ, ◌+◌, ◌-◌, ◌<◌, List, [], ◌∷◌, ◌++◌, map, length, Bool, true, false, Option, Some, None, slice_get, is_some, if◌then◌else◌, refl}
use Rattle.std.proofs.Common.{sym, ap, ◌∙◌, subst, arith}
use Rattle.std.proofs.lemmas.List.{map-append, length-map, append-nil}
use Rattle.acl_heap.specs.Objects.{Objects}
use Rattle.model_terms.specs.Cores.{Core}
use Rattle.model_terms.specs.Outputs.{Known}
use Rattle.model_terms.specs.Worlds as worlds
use Rattle.model_terms.specs.Worlds.{World, Function, FunctionOfAbstract, Defined, OfAbstract, definition_name}
use Rattle.model_terms.specs.declared.role.AbstractRole.TheVariants as abstract_role
use Rattle.model_slots.specs.Resolved.{number_in}
use Rattle.model_slots.proofs.WorldLemmas.{keeps_numbers}
use Rattle.model_window.specs.Stands.{Origins, IsEarlier, HoldsTrees}
use Rattle.model_window.proofs.TableLemmas.{names_tell}
use Rattle.model_events.specs.Functions.{Candidate, signatures, signed, defined}
use Rattle.acl_terms.specs.declared.definition.Definition.{Definition}
use Rattle.acl_terms.specs.Definitions.{seen_definition}
use Rattle.acl_worlds.specs.Contents.{Content, seen_world}
use Rattle.acl_code.specs.declared.term.Term.{Term}
use Rattle.acl_code.specs.Tables.{forest, Grown}
use Rattle.acl_translate.specs.Functions.{formal_tree}
use Rattle.acl_machine.specs.Views.{guard_of, body_of, code_with}
use Rattle.acl_cliques.specs.Worlds.{signed_world}
use Rattle.acl_cliques.specs.Entered.{Entered}
use Rattle.acl_cliques.proofs.WorldLemmas.{seen_with}
use Rattle.acl_tables.specs.Within.{TermsWithin, AllWithin, origins_with}
use Rattle.acl_tables.specs.Laws.{FunctionsBringTrees}
use Rattle.acl_tables.proofs.ListLemmas.{get_left, get_right, number_within, number_behind, all_joined}
use Rattle.acl_tables.proofs.NewLemmas.{Stands, new_stand, new_within, no_export}
use Rattle.acl_tables.proofs.OldLemmas.{old_guard, old_body, old_within}

some_same : {A : Type 0} {a b : A} → Some a ≡ Some b → a ≡ b
some_same e = cc

either : (b : Bool) (a c w : World) → IsEarlier a w → IsEarlier c w → IsEarlier (if b then a else c) w
either true a c w i j = i
either false a c w i j = j

names_signed : (known : Known) (cs : List Candidate) → map definition_name (map (defined known) cs) ≡ map definition_name (map (signed known) cs)
names_signed known [] = refl
names_signed known (m ∷ cs) = ap (λ ns. m.member.name ∷ ns) (names_signed known cs)

module _ (h : Objects) (old new : Content) (before after : List Term) (cs : List Candidate) (origins : Origins) (within : AllWithin before old.definitions) (grown : Grown before after)
    (entered : Entered h old new after cs) (holds : HoldsTrees (seen_world h old) origins (code_with (forest h before) old.definitions)) where
  abbrev w : World
  w = seen_world h old

  abbrev known : Known
  known = signatures w cs

  abbrev c : World
  c = signed_world w cs

  abbrev v : World
  v = w ++ map (defined known) cs

  -- ---- worlds

  still : (a : World) → IsEarlier a w → IsEarlier a v
  still a i = record { number = λ f n e. keeps_numbers.number w (map (defined known) cs) f n (i.number f n e) }

  checked : IsEarlier c v
  checked =
      names_tell.earlier c v []
      (map-append definition_name w (map (defined known) cs)
      ∙ (ap (λ ns. map definition_name w ++ ns) (names_signed known cs)
      ∙ (sym (map-append definition_name w (map (signed known) cs)) ∙ sym (append-nil (map definition_name c)))))

  -- ---- places

  as_long : length w ≡ length old.definitions
  as_long = length-map old.definitions (seen_definition h)

  -- a name that stood before stands at its place, and its definition is there
  data Place (x n : ℕ) : Type 0 where
    Old : number_in w x ≡ Some n → n < length old.definitions → Place x n
    New : number_in w x ≡ None → (k : ℕ) → n ≡ length w + k → Place x n

  place : (x n : ℕ) → number_in v x ≡ Some n → Place x n
  place x n e = go (number_in w x) refl
    where
      go : (o : Option ℕ) → number_in w x ≡ o → Place x n
      go (Some m) f =
          let same : n ≡ m = some_same (sym e ∙ keeps_numbers.number w (map (defined known) cs) x m f) in
          let l = number_within w x m f in
          let a = as_long in
          Old (f ∙ ap Some (sym same)) (omega (arith, l, a, same))
      go None f =
          let l = number_behind w (map (defined known) cs) x n f e in
          New f (n - length w) (omega (arith, l))

  old_there : (n : ℕ) (d : worlds.Definition) → n < length old.definitions → slice_get v n ≡ Some d → slice_get w n ≡ Some d
  old_there n d l e = let a = as_long in sym (get_left w (map (defined known) cs) n (omega (arith, l, a))) ∙ e

  new_there : (n k : ℕ) (d : worlds.Definition) → n ≡ length w + k → slice_get v n ≡ Some d → slice_get (map (defined known) cs) k ≡ Some d
  new_there n k d e f = sym (get_right w (map (defined known) cs) n k e) ∙ f

  stands : (k : ℕ) (f : Function) → slice_get (map (defined known) cs) k ≡ Some (Defined f) → Stands c (forest h after) f (slice_get entered.definitions k)
  stands k f e = new_stand h c after known cs entered.definitions entered.terms k entered.have entered.stand.are f e

  at_new : (n k : ℕ) → n ≡ length w + k → slice_get (old.definitions ++ entered.definitions) n ≡ slice_get entered.definitions k
  at_new n k e = let a = as_long in get_right old.definitions entered.definitions n k (omega (arith, e, a))

  code_guard : (n : ℕ) → n < length old.definitions → guard_of (forest h before) (slice_get old.definitions n) ≡ guard_of (forest h after) (slice_get (old.definitions ++ entered.definitions) n)
  code_guard n l = old_guard h before after grown old.definitions n within ∙ ap (guard_of (forest h after)) (sym (get_left old.definitions entered.definitions n l))

  code_body : (n : ℕ) → n < length old.definitions → body_of (forest h before) (slice_get old.definitions n) ≡ body_of (forest h after) (slice_get (old.definitions ++ entered.definitions) n)
  code_body n l = old_body h before after grown old.definitions n within ∙ ap (body_of (forest h after)) (sym (get_left old.definitions entered.definitions n l))

  -- ---- trees

  in_old : (a : World) (x n : ℕ) → number_in w x ≡ Some n → (if is_some (number_in w x) then a else c) ≡ a
  in_old a x n e = ap (λ (o : Option ℕ). if is_some o then a else c) e

  in_new : (a : World) (x : ℕ) → number_in w x ≡ None → (if is_some (number_in w x) then a else c) ≡ c
  in_new a x e = ap (λ (o : Option ℕ). if is_some o then a else c) e

  moved : (a b : World) (formals : List ℕ) (form : Core) → a ≡ b → formal_tree a formals form ≡ formal_tree b formals form
  moved a b formals form e = ap (λ (u : World). formal_tree u formals form) e

  guard_held : (x n : ℕ) (f : Function) → number_in v x ≡ Some n → slice_get v n ≡ Some (Defined f) → f.executable ≡ true
      → formal_tree ((origins_with w origins c).guard x) f.formals f.guard ≡ Some (guard_of (forest h after) (slice_get (old.definitions ++ entered.definitions) n))
  guard_held x n f i e r = go (place x n i)
    where
      go : Place x n → formal_tree ((origins_with w origins c).guard x) f.formals f.guard ≡ Some (guard_of (forest h after) (slice_get (old.definitions ++ entered.definitions) n))
      go (Old g l) = moved _ _ f.formals f.guard (in_old (origins.guard x) x n g) ∙ (holds.guard x n f g (old_there n (Defined f) l e) r ∙ ap Some (code_guard n l))
      go (New g k p) = moved _ _ f.formals f.guard (in_new (origins.guard x) x g) ∙ ((stands k f (new_there n k (Defined f) p e)).guard ∙ ap (λ d. Some (guard_of (forest h after) d)) (sym (at_new n k p)))

  body_held : (x n : ℕ) (f : Function) → number_in v x ≡ Some n → slice_get v n ≡ Some (Defined f) → f.executable ≡ true
      → formal_tree ((origins_with w origins c).body x) f.formals f.body ≡ Some (body_of (forest h after) (slice_get (old.definitions ++ entered.definitions) n))
  body_held x n f i e r = go (place x n i)
    where
      go : Place x n → formal_tree ((origins_with w origins c).body x) f.formals f.body ≡ Some (body_of (forest h after) (slice_get (old.definitions ++ entered.definitions) n))
      go (Old g l) = moved _ _ f.formals f.body (in_old (origins.body x) x n g) ∙ (holds.body x n f g (old_there n (Defined f) l e) r ∙ ap Some (code_body n l))
      go (New g k p) = moved _ _ f.formals f.body (in_new (origins.body x) x g) ∙ ((stands k f (new_there n k (Defined f) p e)).body ∙ ap (λ d. Some (body_of (forest h after) d)) (sym (at_new n k p)))

  export_held : (x n : ℕ) (f : FunctionOfAbstract) → number_in v x ≡ Some n → slice_get v n ≡ Some (OfAbstract f) → f.role ≡ abstract_role.Export
      → formal_tree ((origins_with w origins c).guard x) f.formals f.guard ≡ Some (guard_of (forest h after) (slice_get (old.definitions ++ entered.definitions) n))
  export_held x n f i e r = go (place x n i)
    where
      go : Place x n → formal_tree ((origins_with w origins c).guard x) f.formals f.guard ≡ Some (guard_of (forest h after) (slice_get (old.definitions ++ entered.definitions) n))
      go (Old g l) = moved _ _ f.formals f.guard (in_old (origins.guard x) x n g) ∙ (holds.export x n f g (old_there n (OfAbstract f) l e) r ∙ ap Some (code_guard n l))
      go (New g k p) = absurd (no_export known cs k f (new_there n k (OfAbstract f) p e))

  held : HoldsTrees v (origins_with w origins c) (code_with (forest h after) (old.definitions ++ entered.definitions))
  held = record {
    guards = λ f. either (is_some (number_in w f)) (origins.guard f) c v (still (origins.guard f) (holds.guards f)) checked;
    bodies = λ f. either (is_some (number_in w f)) (origins.body f) c v (still (origins.body f) (holds.bodies f)) checked;
    guard = guard_held;
    body = body_held;
    export = export_held;
  }

  all_held : HoldsTrees (seen_world h new) (origins_with w origins c) (code_with (forest h after) new.definitions)
  all_held =
      subst (λ (ds : List Definition). HoldsTrees (seen_world h new) (origins_with w origins c) (code_with (forest h after) ds)) (sym (ap (λ (x : Content). x.definitions) entered.is))
      (subst (λ (u : World). HoldsTrees u (origins_with w origins c) (code_with (forest h after) (old.definitions ++ entered.definitions))) (sym (seen_with h old new entered.definitions (map (defined known) cs) entered.is entered.seen)) held)

all_within : (h : Objects) (old new : Content) (before after : List Term) (cs : List Candidate) → AllWithin before old.definitions → Grown before after → Entered h old new after cs → AllWithin after new.definitions
all_within h old new before after cs w g e =
    subst (λ (ds : List Definition). AllWithin after ds) (sym (ap (λ (x : Content). x.definitions) e.is))
    (all_joined (TermsWithin after) old.definitions e.definitions (old_within h before after g old.definitions w) (new_within after e.definitions e.terms e.have e.stand.within))

pub functions_bring_trees : FunctionsBringTrees
functions_bring_trees = record { hold = all_held; within = all_within }
