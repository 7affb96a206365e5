-- The first fault by the faults of children.
use Rattle.std.proofs.Common.{◌≡◌, ℕ, ◌+◌, List, [], ◌∷◌, ◌++◌, refl, ap, sym, ◌∙◌}
use Rattle.std.specs.Prelude.{Option, Some, None, map, option_map}
use Rattle.std.specs.Option.{option_or}
use Rattle.model_terms.specs.declared.rule.Rule.{Rule}
use Rattle.model_terms.specs.declared.rule.Mode.{Mode}
use Rattle.model_terms.specs.Cores.{Core, Cores, none, more, Var, Const, If, Let, Mv, MvLet, StobjLet, WithLocal, MustBeEqual, Call, Place, count}
use Rattle.model_terms.specs.Worlds.{World, Out, Scope}
use Rattle.model_terms.specs.Scopes.{name_kinds, binding, producer_scope, consumer_scope, local_scope, body_scope}
use Rattle.model_terms.specs.Sites.{Placed, down, here, child, below, below_parts, below_actuals, one_ordinary, first_kind, other_kinds, formal_stobj, actual_expected, parent_in}
use Rattle.model_terms.specs.Faults.{Fault, first_rule, fault_at, first_in, first_at}
use Rattle.model_terms_laws.specs.Parts.{fault_down, own_fault, child_fault, parts_fault, actuals_fault, faults_below, GoesDown}

or_again : (a b c : Option Fault) → option_or (option_or a b) c ≡ option_or a (option_or b c)
or_again None b c = refl
or_again (Some a) b c = refl

pub first_both : (w : World) (mode : Mode) (ps qs : List Placed) → first_in w mode (ps ++ qs) ≡ option_or (first_in w mode ps) (first_in w mode qs)
unfolding first_in
first_both w mode [] qs = refl
first_both w mode (p ∷ ps) qs =
    ap (option_or (fault_at w mode p)) (first_both w mode ps qs) ∙ sym (or_again (fault_at w mode p) (first_in w mode ps) (first_in w mode qs))

at_down : (k : ℕ) (place : Place) (r : Option Rule) → ◌≡◌ {A = Option Fault} (option_map (λ r. record { rule = r; place = k ∷ place }) r) (fault_down k (option_map (λ r. record { rule = r; place = place }) r))
at_down k place None = refl
at_down k place (Some r) = refl

or_down : (k : ℕ) (a b : Option Fault) → option_or (fault_down k a) (fault_down k b) ≡ fault_down k (option_or a b)
or_down k None b = refl
or_down k (Some a) b = refl

pub first_down : (w : World) (mode : Mode) (k : ℕ) (ps : List Placed) → first_in w mode (map (down k) ps) ≡ fault_down k (first_in w mode ps)
unfolding first_in
first_down w mode k [] = refl
first_down w mode k (p ∷ ps) =
    let one : fault_at w mode (down k p) ≡ fault_down k (fault_at w mode p) = at_down k p.place (first_rule w mode p.site) in
    rw (one, first_down w mode k ps) (or_down k (fault_at w mode p) (first_in w mode ps))

-- a child, and what comes after it
child_then : (w : World) (mode : Mode) (k : ℕ) (scope : Scope) (f : Core) (formal : Option ℕ) (expected : List Out) (qs : List Placed)
    → first_in w mode (map (down k) (here f scope formal expected ∷ below w scope f expected) ++ qs) ≡ option_or (fault_down k (first_at w mode scope f formal expected)) (first_in w mode qs)
unfolding first_at
child_then w mode k scope f formal expected qs =
    first_both w mode (map (down k) (here f scope formal expected ∷ below w scope f expected)) qs
    ∙ ap (λ a. option_or a (first_in w mode qs)) (first_down w mode k (here f scope formal expected ∷ below w scope f expected))

last_child : (w : World) (mode : Mode) (k : ℕ) (scope : Scope) (f : Core) (expected : List Out) → first_in w mode (child k f scope expected (below w scope f expected)) ≡ child_fault w mode k scope f expected
unfolding first_at
last_child w mode k scope f expected = first_down w mode k (here f scope None expected ∷ below w scope f expected)

below_is : (w : World) (mode : Mode) (scope : Scope) (f : Core) (expected : List Out) → first_in w mode (below w scope f expected) ≡ faults_below w mode scope f expected
unfolding below first_in parts_fault actuals_fault
below_is w mode scope (Var x) expected = refl
below_is w mode scope (Const o) expected = refl
below_is w mode scope (If a b c) expected =
    child_then w mode 0 scope a None one_ordinary (child 1 b scope expected (below w scope b expected) ++ child 2 c scope expected (below w scope c expected))
    ∙ ap (option_or (child_fault w mode 0 scope a one_ordinary))
    (child_then w mode 1 scope b None expected (child 2 c scope expected (below w scope c expected)) ∙ ap (option_or (child_fault w mode 1 scope b expected)) (last_child w mode 2 scope c expected))
below_is w mode scope (Let names bound body) expected =
    first_both w mode (below_parts w scope (name_kinds w names) 0 bound) (child (count bound) body (binding w scope names) expected (below w (binding w scope names) body expected))
    ∙ ap (option_or (parts_fault w mode scope (name_kinds w names) 0 bound)) (last_child w mode (count bound) (binding w scope names) body expected)
below_is w mode scope (Mv parts) expected = refl
below_is w mode scope (MvLet names bound body) expected =
    child_then w mode 0 scope bound None (name_kinds w names) (child 1 body (binding w scope names) expected (below w (binding w scope names) body expected))
    ∙ ap (option_or (child_fault w mode 0 scope bound (name_kinds w names))) (last_child w mode 1 (binding w scope names) body expected)
below_is w mode scope (StobjLet names bound vars producer consumer) expected =
    child_then w mode 0 (producer_scope w scope (parent_in bound) names) producer None (name_kinds w vars) (child 1 consumer (consumer_scope w scope names vars) expected (below w (consumer_scope w scope names vars) consumer expected))
    ∙ ap (option_or (child_fault w mode 0 (producer_scope w scope (parent_in bound) names) producer (name_kinds w vars))) (last_child w mode 1 (consumer_scope w scope names vars) consumer expected)
below_is w mode scope (WithLocal stobj names producer body) expected =
    child_then w mode 0 (local_scope w scope stobj) producer None (name_kinds w names) (child 1 body (body_scope w scope stobj names) expected (below w (body_scope w scope stobj names) body expected))
    ∙ ap (option_or (child_fault w mode 0 (local_scope w scope stobj) producer (name_kinds w names))) (last_child w mode 1 (body_scope w scope stobj names) body expected)
below_is w mode scope (MustBeEqual logic exec) expected =
    child_then w mode 0 scope logic None expected (child 1 exec scope expected (below w scope exec expected))
    ∙ ap (option_or (child_fault w mode 0 scope logic expected)) (last_child w mode 1 scope exec expected)
below_is w mode scope (Call f actuals) expected = refl

at_form : (w : World) (mode : Mode) (scope : Scope) (f : Core) (formal : Option ℕ) (expected : List Out)
    → first_at w mode scope f formal expected ≡ option_or (own_fault w mode scope f formal expected) (faults_below w mode scope f expected)
unfolding first_at first_in
at_form w mode scope f formal expected = ap (option_or (own_fault w mode scope f formal expected)) (below_is w mode scope f expected)

no_part : (w : World) (mode : Mode) (scope : Scope) (kinds : List Out) (k : ℕ) → parts_fault w mode scope kinds k none ≡ None
unfolding parts_fault below first_in
no_part w mode scope kinds k = refl

first_part : (w : World) (mode : Mode) (scope : Scope) (kinds : List Out) (k : ℕ) (f : Core) (fs : Cores)
    → parts_fault w mode scope kinds k (more f fs) ≡ option_or (child_fault w mode k scope f (first_kind kinds ∷ [])) (parts_fault w mode scope (other_kinds kinds) (k + 1) fs)
unfolding parts_fault below
first_part w mode scope kinds k f fs = child_then w mode k scope f None (first_kind kinds ∷ []) (below_parts w scope (other_kinds kinds) (k + 1) fs)

no_actual : (w : World) (mode : Mode) (scope : Scope) (ins : List Out) (k : ℕ) → actuals_fault w mode scope ins k none ≡ None
unfolding actuals_fault below first_in
no_actual w mode scope ins k = refl

first_actual : (w : World) (mode : Mode) (scope : Scope) (ins : List Out) (k : ℕ) (f : Core) (fs : Cores)
    → actuals_fault w mode scope ins k (more f fs)
    ≡ option_or (fault_down k (first_at w mode scope f (formal_stobj (first_kind ins)) (actual_expected (first_kind ins) f))) (actuals_fault w mode scope (other_kinds ins) (k + 1) fs)
unfolding actuals_fault below
first_actual w mode scope ins k f fs =
    child_then w mode k scope f (formal_stobj (first_kind ins)) (actual_expected (first_kind ins) f) (below_actuals w scope (other_kinds ins) (k + 1) fs)

pub goes_down : GoesDown
goes_down = record { at_form = at_form; no_part = no_part; first_part = first_part; no_actual = no_actual; first_actual = first_actual }
