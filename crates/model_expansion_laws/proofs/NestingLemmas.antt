-- No core form that an expansion makes is too deep.
use Rattle.std.proofs.Common.{◌≡◌, ℕ, zero, suc, ◌+◌, ◌-◌, ◌≤◌, List, [], ◌∷◌, ◌++◌, take, length, Bool, true, false, Option, Some, None, refl, subst, arith}
use Rattle.std.specs.Prelude.{nat_lt, nat_eq, max, if◌then◌else◌, option_and_then, map}
use Rattle.std.specs.Option.{option_or}
use Rattle.model_objects.specs.Object.{Object, Integer, Symbol, Text, Pair}
use Rattle.model_symbols.specs.Symbols.{QualifiedName}
use Rattle.model_terms.specs.Cores.{Core, Cores, cores, count, Var, Const, If, Let, Mv, MvLet, StobjLet, WithLocal, MustBeEqual, Call, none, more}
use Rattle.model_terms.specs.Worlds.{MacroFormals, Definition, Macro, Constant, definition}
use Rattle.model_eval.specs.Outcomes.{Steps, Outcome, Gives, Stops, Unknown}
use Rattle.model_expansion.specs.Forms.{elements, is_self_evaluating}
use Rattle.model_expansion.specs.Faults.{ExpandFault, Arity, MacroStopped}
use Rattle.model_expansion.specs.TypeTerms.{depth_of, depth_of_all}
use Rattle.model_expansion.specs.Layers.{MacroRow, core_row, macro_row, Kind, IfNode, LetNode, MvNode, MvLetNode, StobjLetNode, WithLocalNode, MustBeEqualNode, CallNode, GuardItem, FormHolds, Meets, Part, Form, Ready, Rest, Guard, Found, Leaf, Node, Made, Again, Stays, made_of}
use Rattle.model_expansion.specs.Expansion.{deepest_core, Setting, Progress, Expanded, Makes, Fails, then_make, counting_expansion, part_at, core_of_node, macro_values, Look, Stands, Bad, Use, UserUse, Settle, settles, out_of_steps, again, core_look, call_look, arity_of, function_look, defined_look, variable_or, symbol_look, macro_look, headed_look, list_look, look_at, built, body_value, used, looked, settled, settle, row_found, head_fault, if_room, ready_fault, ready_faults, ready_found, guard_found, part_found, Grow, grown_all, grown_found, grown}
use Rattle.model_expansion_laws.specs.Counting.{CoresAreNotTooDeep}
use Rattle.model_expansion_laws.proofs.CountLemmas.{shaped, with_values}
use Rattle.model_expansion_laws.proofs.LayerLemmas.{HasParts, IsLow, IsLowMade, IsLowIfAny, low_made}

-- ---- ready forms

both_within : (a b : Option ExpandFault) (m n left : ℕ) → (a ≡ None → m ≤ left) → (b ≡ None → n ≤ left) → option_or a b ≡ None → max m n ≤ left
both_within None b m n left h k e = omega (arith, h refl, k e)
both_within (Some fault) b m n left h k e = cc

behind_within : (a b : Option ExpandFault) (n left : ℕ) → (b ≡ None → n ≤ left) → option_or a b ≡ None → n ≤ left
behind_within None b n left k e = k e
behind_within (Some fault) b n left k e = cc

module _ (x : Setting) where
  node_within : (left : ℕ) (fault : Option ExpandFault) (n : ℕ) → (fault ≡ None → n ≤ left - 1) → if_room x left fault ≡ None → n + 1 ≤ left
  node_within zero fault n h e = cc
  node_within (suc left) fault n h e = omega (arith, h e)

  mutual
    within_ready : (f : Core) (left : ℕ) → ready_fault x f left ≡ None → depth_of f ≤ left
    within_ready (Var v) left e = node_within left None 0 (λ h. omega arith) e
    within_ready (Const o) left e = node_within left None 0 (λ h. omega arith) e
    within_ready (If a b c) left e =
        node_within left _ _ (both_within _ _ _ _ _ (within_ready a (left - 1)) (both_within _ _ _ _ _ (within_ready b (left - 1)) (within_ready c (left - 1)))) e
    within_ready (Let names forms body) left e = node_within left _ _ (both_within _ _ _ _ _ (all_ready forms (left - 1)) (within_ready body (left - 1))) e
    within_ready (Mv fs) left e = node_within left _ _ (all_ready fs (left - 1)) e
    within_ready (MvLet names form body) left e = node_within left _ _ (both_within _ _ _ _ _ (within_ready form (left - 1)) (within_ready body (left - 1))) e
    within_ready (StobjLet names forms vars producer consumer) left e =
        node_within left _ _ (both_within _ _ _ _ _ (all_ready forms (left - 1)) (both_within _ _ _ _ _ (within_ready producer (left - 1)) (within_ready consumer (left - 1)))) e
    within_ready (WithLocal stobj names producer body) left e =
        node_within left _ _ (both_within _ _ _ _ _ (within_ready producer (left - 1)) (within_ready body (left - 1))) e
    within_ready (MustBeEqual logic exec) left e = node_within left _ _ (both_within _ _ _ _ _ (within_ready logic (left - 1)) (within_ready exec (left - 1))) e
    within_ready (Call f fs) left e =
        node_within left (option_or (head_fault x f (count fs) (arity_of (definition x.world f))) (ready_faults x fs (left - 1))) (depth_of_all fs)
        (behind_within (head_fault x f (count fs) (arity_of (definition x.world f))) (ready_faults x fs (left - 1)) (depth_of_all fs) (left - 1) (all_ready fs (left - 1))) e

    all_ready : (fs : Cores) (left : ℕ) → ready_faults x fs left ≡ None → depth_of_all fs ≤ left
    all_ready none left e = omega arith
    all_ready (more f fs) left e = both_within _ _ _ _ _ (within_ready f left) (all_ready fs left) e

-- ---- one place

abbrev IsLowLook : Look → Type 0
IsLowLook (Stands f) = IsLow f
IsLowLook (Bad fault) = Unit {0}
IsLowLook (Use s row d) = Unit {0}
IsLowLook (UserUse s formals body d) = Unit {0}

abbrev IsLowOutcome : Expanded Made → Type 0
IsLowOutcome (Makes m p) = IsLowMade m
IsLowOutcome (Fails fault p) = Unit {0}

abbrev IsLowPlace : Expanded Found → Type 0
IsLowPlace (Makes f p) = IsLow f
IsLowPlace (Fails fault p) = Unit {0}

low_again : (p : Progress) (r : Outcome ℕ) → IsLowOutcome (again p r)
low_again p (Gives values state) = tt
low_again p (Stops stop inside state) = tt
low_again p Unknown = tt

low_settles : (r : Expanded Made) (go : Settle) → IsLowOutcome r → ((o : Object ℕ) (p : Progress) → IsLowPlace (go o p)) → IsLowPlace (then_make r (settles go))
low_settles (Makes (Again o) p) go h k = k o p
low_settles (Makes (Stays f) p) go h k = h
low_settles (Fails fault p) go h k = tt

low_counting : (steps : ℕ) (go : Progress → Expanded Made) (p : Progress) → ((q : Progress) → IsLowOutcome (go q)) → IsLowOutcome (counting_expansion steps go p)
low_counting steps go p h = by_test (nat_lt p.calls steps)
  where
    by_test : (b : Bool) → IsLowOutcome (if b then go (record p { calls = p.calls + 1; outer = p.outer + 1 }) else Fails (MacroStopped Steps None) p)
    by_test true = h (record p { calls = p.calls + 1; outer = p.outer + 1 })
    by_test false = tt

module _ (x : Setting) where
  low_core : (s : ℕ) (m : Option Made) → IsLowIfAny m → IsLowLook (core_look s m)
  low_core s None h = tt
  low_core s (Some (Stays f)) h = h
  low_core s (Some (Again o)) h = tt

  low_call : (s arity : ℕ) (os : Option (List (Object ℕ))) → IsLowLook (call_look s arity os)
  low_call s arity None = tt
  low_call s arity (Some os) = go (nat_eq (length os) arity)
    where
      go : (b : Bool) → IsLowLook (if b then Stands (Node (CallNode s) (map Form os)) else Bad (Arity s))
      go true = tt
      go false = tt

  low_function : (s : ℕ) (d : Object ℕ) (arity : Option ℕ) → IsLowLook (function_look s d arity)
  low_function s d None = tt
  low_function s d (Some arity) = low_call s arity (elements d)

  low_defined : (s : ℕ) (d : Object ℕ) (found : Option Definition) → IsLowLook (defined_look s d found)
  low_defined s d None = tt
  low_defined s d (Some (Macro name formals body)) = tt
  low_defined s d (Some found) = low_function s d (arity_of (Some found))

  low_macro : (symbols : List QualifiedName) (s : ℕ) (d : Object ℕ) (row : Option MacroRow) → IsLowLook (macro_look x symbols s d row)
  low_macro symbols s d None = low_defined s d (definition x.world s)
  low_macro symbols s d (Some row) = tt

  low_option : (symbols : List QualifiedName) (row : MacroRow) (os : Option (List (Object ℕ))) → IsLowIfAny (option_and_then (made_of symbols row) os)
  low_option symbols row None = tt
  low_option symbols row (Some os) = low_made symbols row os

  low_headed : (symbols : List QualifiedName) (s : ℕ) (d : Object ℕ) (row : Option MacroRow) → IsLowLook (headed_look x symbols s d row)
  low_headed symbols s d None = low_macro symbols s d (macro_row s)
  low_headed symbols s d (Some row) = low_core s (option_and_then (made_of symbols row) (elements d)) (low_option symbols row (elements d))

  low_list : (symbols : List QualifiedName) (a d : Object ℕ) → IsLowLook (list_look x symbols a d)
  low_list symbols (Integer n) d = tt
  low_list symbols (Symbol s) d = low_headed symbols s d (core_row s)
  low_list symbols (Text bytes) d = tt
  low_list symbols (Pair a b) d = tt

  low_variable : (s : ℕ) (found : Option Definition) → depth_of (variable_or x s found) ≡ 1
  low_variable s (Some (Constant name value)) = refl
  low_variable s found = refl

  low_symbol : (symbols : List QualifiedName) (s : ℕ) → depth_of (symbol_look x symbols s) ≡ 1
  low_symbol symbols s = go (is_self_evaluating symbols s)
    where
      go : (b : Bool) → depth_of (if b then Const (Symbol s) else variable_or x s (definition x.world s)) ≡ 1
      go true = refl
      go false = low_variable s (definition x.world s)

  low_at : (symbols : List QualifiedName) (o : Object ℕ) → IsLowLook (look_at x symbols o)
  unfolding look_at
  low_at symbols (Integer n) = refl
  low_at symbols (Symbol s) = low_symbol symbols s
  low_at symbols (Text bytes) = refl
  low_at symbols (Pair a d) = low_list symbols a d

  low_shaped : (s : ℕ) (p : Progress) (m : Option Made) → IsLowIfAny m → IsLowOutcome (shaped x s p m)
  low_shaped s p None h = tt
  low_shaped s p (Some m) h = h

  low_built : (s : ℕ) (row : MacroRow) (d : Object ℕ) (p : Progress) → IsLowOutcome (built x s row d p)
  low_built s row d p = low_shaped s p (option_and_then (made_of p.symbols row) (elements d)) (low_option p.symbols row (elements d))

  low_values : (s : ℕ) (formals : MacroFormals) (body : Core) (p : Progress) (values : Option (List (Object ℕ))) → IsLowOutcome (with_values x s formals body p values)
  low_values s formals body p None = tt
  low_values s formals body p (Some values) = low_again p (body_value x formals body values p)

  low_used : (s : ℕ) (formals : MacroFormals) (body : Core) (os : Option (List (Object ℕ))) (p : Progress) → IsLowOutcome (used x s formals body os p)
  low_used s formals body None p = tt
  low_used s formals body (Some os) p = low_values s formals body p (macro_values p.symbols formals os)

  low_looked : (l : Look) (p : Progress) → IsLowLook l → IsLowOutcome (looked x l p)
  low_looked (Stands f) p h = h
  low_looked (Bad fault) p h = tt
  low_looked (Use s row d) p h = low_counting x.steps (built x s row d) p (low_built s row d)
  low_looked (UserUse s formals body d) p h = low_counting x.steps (used x s formals body (elements d)) p (low_used s formals body (elements d))

  low_settled : (left : ℕ) (o : Object ℕ) (p : Progress) → IsLowPlace (settled x left o p)
  unfolding settled
  low_settled zero o p =
      low_settles (looked x (look_at x p.symbols o) p) out_of_steps (low_looked (look_at x p.symbols o) p (low_at p.symbols o)) (λ o' q. tt)
  low_settled (suc left) o p =
      low_settles (looked x (look_at x p.symbols o) p) (settled x left) (low_looked (look_at x p.symbols o) p (low_at p.symbols o)) (low_settled left)

  low_row : (m : Option Made) (p : Progress) → IsLowIfAny m → IsLowPlace (row_found x m p)
  low_row None p h = tt
  low_row (Some (Again o)) p h = low_settled (x.steps - p.calls) o p
  low_row (Some (Stays f)) p h = h

-- ---- parts

-- what is found where so many levels are left
abbrev IsFoundWithin : ℕ → Expanded Found → Type 0
IsFoundWithin left (Makes (Leaf f) p) = depth_of f ≤ left
IsFoundWithin left (Makes (Node k qs) p) = HasParts k qs
IsFoundWithin left (Fails fault p) = Unit {0}

found_low : (left : ℕ) (r : Expanded Found) → IsLowPlace r → IsFoundWithin (suc left) r
found_low left (Makes (Leaf f) p) h = omega (arith, h)
found_low left (Makes (Node k qs) p) h = h
found_low left (Fails fault p) h = tt

module _ (x : Setting) where
  found_ready : (left : ℕ) (f : Core) (p : Progress) (fault : Option ExpandFault) → ready_fault x f left ≡ fault → IsFoundWithin left (ready_found x f fault p)
  found_ready left f p None e = within_ready x f left e
  found_ready left f p (Some fault) e = tt

  found_guard : (left : ℕ) (gs : List GuardItem) (p : Progress) → IsFoundWithin (suc left) (guard_found x (suc left) gs p)
  found_guard left [] p = omega arith
  found_guard left (FormHolds o ∷ []) p = found_low left (settle x o p) (low_settled x (x.steps - p.calls) o p)
  found_guard left (Meets f ∷ []) p = found_ready (suc left) f p (ready_fault x f (suc left)) refl
  found_guard left (g ∷ (h ∷ gs)) p = tt

  found_part : (left : ℕ) (q : Part) (p : Progress) → IsFoundWithin (suc left) (part_found x (suc left) q p)
  found_part left (Form o) p = found_low left (settle x o p) (low_settled x (x.steps - p.calls) o p)
  found_part left (Ready f) p = found_ready (suc left) f p (ready_fault x f (suc left)) refl
  found_part left (Rest row os) p = found_low left (row_found x (made_of p.symbols row os) p) (low_row x (made_of p.symbols row os) p (low_made p.symbols row os))
  found_part left (Guard gs) p = found_guard left gs p

-- ---- nodes

part_within : (left : ℕ) (fs : List Core) (k : ℕ) → 1 ≤ left → depth_of_all (cores fs) ≤ left → depth_of (part_at fs k) ≤ left
part_within left [] k room h = room
part_within left (f ∷ fs) zero room h = omega (arith, h)
part_within left (f ∷ fs) (suc k) room h = part_within left fs k room (omega (arith, h))

take_within : (left n : ℕ) (fs : List Core) → depth_of_all (cores fs) ≤ left → depth_of_all (cores (take n fs)) ≤ left
take_within left zero fs h = omega arith
take_within left (suc n) [] h = omega arith
take_within left (suc n) (f ∷ fs) h = let others = take_within left n fs (omega (arith, h)) in omega (arith, h, others)

last_within : (left : ℕ) (fs : List Core) (f : Core) → depth_of_all (cores fs) ≤ left → depth_of f ≤ left → depth_of_all (cores (fs ++ f ∷ [])) ≤ left
last_within left [] f h k = omega (arith, k)
last_within left (g ∷ fs) f h k = let others = last_within left fs f (omega (arith, h)) k in omega (arith, h, others)

joined_within : (left : ℕ) (k : Kind) (fs : List Core) → 1 ≤ left → depth_of_all (cores fs) ≤ left → depth_of (core_of_node k fs) ≤ suc left
joined_within left IfNode fs room h = omega (arith, part_within left fs 0 room h, part_within left fs 1 room h, part_within left fs 2 room h)
joined_within left (LetNode names) fs room h = omega (arith, take_within left (length names) fs h, part_within left fs (length names) room h)
joined_within left MvNode fs room h = omega (arith, h)
joined_within left (MvLetNode names) fs room h = omega (arith, part_within left fs 0 room h, part_within left fs 1 room h)
joined_within left (StobjLetNode names vars) fs room h =
    omega (arith, take_within left (length names) fs h, part_within left fs (length names) room h, part_within left fs (length names + 1) room h)
joined_within left (WithLocalNode stobj names) fs room h = omega (arith, part_within left fs 0 room h, part_within left fs 1 room h)
joined_within left MustBeEqualNode fs room h = omega (arith, part_within left fs 0 room h, part_within left fs 1 room h)
joined_within left (CallNode f) fs room h = omega (arith, h)

-- ---- all places

abbrev IsWithin : ℕ → Expanded Core → Type 0
IsWithin left (Makes f p) = depth_of f ≤ left
IsWithin left (Fails fault p) = Unit {0}

abbrev AreWithin : ℕ → Expanded (List Core) → Type 0
AreWithin left (Makes fs p) = depth_of_all (cores fs) ≤ left
AreWithin left (Fails fault p) = Unit {0}

within_then : (left : ℕ) (r : Expanded Core) (go : Core → Progress → Expanded (List Core)) → IsWithin left r → ((f : Core) (p : Progress) → depth_of f ≤ left → AreWithin left (go f p)) → AreWithin left (then_make r go)
within_then left (Makes f p) go h k = k f p h
within_then left (Fails fault p) go h k = tt

module _ (left : ℕ) (grow : Grow) (h : (q : Part) (p : Progress) → IsWithin left (grow q p)) where
  all_within : (qs : List Part) (done : List Core) (p : Progress) → depth_of_all (cores done) ≤ left → AreWithin left (grown_all grow qs done p)
  unfolding grown_all
  all_within [] done p k = k
  all_within (q ∷ qs) done p k =
      within_then left (grow q p) (λ f after. grown_all grow qs (done ++ f ∷ []) after) (h q p) (λ f after d. all_within qs (done ++ f ∷ []) after (last_within left done f k d))

  node_joined : (k : Kind) (r : Expanded (List Core)) → 1 ≤ left → AreWithin left r → IsWithin (suc left) (then_make r (λ fs after. Makes (core_of_node k fs) after))
  node_joined k (Makes fs p) room d = joined_within left k fs room d
  node_joined k (Fails fault p) room d = tt

module _ (x : Setting) where
  -- where no level is left for parts, there are none
  lowest : (k : Kind) (qs : List Part) (p : Progress) → HasParts k qs → IsWithin 1 (grown_found (grown x zero) (Node k qs) p)
  unfolding grown grown_all
  lowest k (q ∷ qs) p h = tt
  lowest IfNode [] p h = absurd h
  lowest (LetNode names) [] p h = absurd h
  lowest MvNode [] p h = omega arith
  lowest (MvLetNode names) [] p h = absurd h
  lowest (StobjLetNode names vars) [] p h = absurd h
  lowest (WithLocalNode stobj names) [] p h = absurd h
  lowest MustBeEqualNode [] p h = absurd h
  lowest (CallNode f) [] p h = omega arith

  node_grown : (left : ℕ) (k : Kind) (qs : List Part) (p : Progress) → ((q : Part) (after : Progress) → IsWithin left (grown x left q after)) → HasParts k qs
      → IsWithin (suc left) (grown_found (grown x left) (Node k qs) p)
  node_grown zero k qs p h parts = lowest k qs p parts
  node_grown (suc left) k qs p h parts =
      node_joined (suc left) (grown x (suc left)) h k (grown_all (grown x (suc left)) qs [] p) (omega arith) (all_within (suc left) (grown x (suc left)) h qs [] p (omega arith))

  found_grown : (left : ℕ) (r : Expanded Found) → ((q : Part) (after : Progress) → IsWithin left (grown x left q after)) → IsFoundWithin (suc left) r
      → IsWithin (suc left) (then_make r (grown_found (grown x left)))
  found_grown left (Makes (Leaf f) p) h k = k
  found_grown left (Makes (Node kind qs) p) h k = node_grown left kind qs p h k
  found_grown left (Fails fault p) h k = tt

  within_grown : (left : ℕ) (q : Part) (p : Progress) → IsWithin left (grown x left q p)
  unfolding grown
  within_grown zero q p = tt
  within_grown (suc left) q p = found_grown left (part_found x (suc left) q p) (within_grown left) (found_part x left q p)

pub cores_are_not_too_deep : CoresAreNotTooDeep
cores_are_not_too_deep = record {
  form = λ x o p q f e. subst (IsWithin deepest_core) e (within_grown x deepest_core (Form o) p);
  guard = λ x gs p q f e. subst (IsWithin deepest_core) e (within_grown x deepest_core (Guard gs) p);
}
