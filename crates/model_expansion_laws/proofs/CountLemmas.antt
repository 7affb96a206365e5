-- An expansion counts uses and calls up to its limit.
use Rattle.std.proofs.Common.{◌≡◌, ℕ, zero, suc, ◌+◌, ◌-◌, ◌<◌, ◌≤◌, List, [], ◌∷◌, ◌++◌, Bool, true, false, Option, Some, None, refl, sym, arith}
use Rattle.std.specs.Prelude.{nat_lt, nat_eq, if◌then◌else◌, option_and_then, map, length}
use Rattle.std.specs.Option.{option_or}
use Rattle.std.proofs.lemmas.List.{append-nil}
use Rattle.std.proofs.lemmas.Bool.{ltb-true}
use Rattle.model_objects.specs.Object.{Object, Integer, Symbol, Text, Pair}
use Rattle.model_symbols.specs.Symbols.{QualifiedName}
use Rattle.model_terms.specs.Cores.{Core, Cores, Var, Const, If, Let, Mv, MvLet, StobjLet, WithLocal, MustBeEqual, Call, none, more, count}
use Rattle.model_terms.specs.Worlds.{MacroFormals, Definition, Macro, definition}
use Rattle.model_eval.specs.Outcomes.{Steps, State, Outcome, Gives, Stops, Unknown, Origin, here}
use Rattle.model_eval.specs.Checked.{begun}
use Rattle.model_eval_laws.specs.Counting.{Grown, Counts}
use Rattle.model_eval_laws.proofs.Counts.{longer_then, not_less}
use Rattle.model_eval_laws.proofs.CountLemmas.{counts_calls}
use Rattle.model_expansion.specs.Forms.{elements}
use Rattle.model_expansion.specs.Faults.{ExpandFault, MacroArgs, BadShape, MacroStopped, Arity}
use Rattle.model_expansion.specs.Layers.{MacroRow, core_row, macro_row, CallNode, GuardItem, FormHolds, Meets, Part, Form, Ready, Rest, Guard, Found, Leaf, Node, Made, Again, Stays, made_of}
use Rattle.model_expansion.specs.Expansion.{deepest_core, Setting, Progress, progress_after, evaluated_to, Expanded, Makes, Fails, then_make, counting_expansion, macro_values, Look, Stands, Bad, Use, UserUse, Settle, settles, out_of_steps, again, core_look, call_look, arity_of, function_look, defined_look, macro_look, headed_look, list_look, look_at, built, body_value, used, looked, settled, settle, row_found, head_fault, if_room, ready_fault, ready_faults, ready_found, ready, guard_found, part_found, Grow, grown_all, grown_found, grown}
use Rattle.model_expansion_laws.specs.Counting.{Advanced, IsOutOfSteps, Advances, ExpansionCounts}

module _ (limit : ℕ) where
  -- ---- progress

  pub advanced_same : (p : Progress) → Advanced limit p p
  advanced_same p = record { calls = omega arith; within = λ h. h; outer = omega arith; outer_calls = omega arith; symbols = ([], sym (append-nil p.symbols)) }

  pub advanced_then : (a b c : Progress) → Advanced limit a b → Advanced limit b c → Advanced limit a c
  advanced_then a b c g h = record {
    calls = omega (arith, g.calls, h.calls);
    within = λ q. h.within (g.within q);
    outer = omega (arith, g.outer, h.outer);
    outer_calls = omega (arith, g.outer_calls, h.outer_calls);
    symbols = longer_then a.symbols b.symbols c.symbols g.symbols h.symbols;
  }

  -- after an evaluation
  pub advanced_state : (p : Progress) (origin : Origin) (state : State ℕ) → Grown limit (begun p.symbols [] p.calls) state → Advanced limit p (progress_after p origin state)
  advanced_state p origin state g = record {
    calls = g.calls;
    within = g.within;
    outer = omega arith;
    outer_calls = omega (arith, g.outer_calls);
    symbols = g.symbols;
  }

  -- after that of the command's own form
  pub advanced_to : (p : Progress) (origin : Origin) (state : State ℕ) → Grown limit (begun p.symbols [] p.calls) state → Advanced limit p (evaluated_to p origin state)
  advanced_to p origin state g = record {
    calls = g.calls;
    within = g.within;
    outer = omega arith;
    outer_calls = omega (arith, g.outer_calls);
    symbols = g.symbols;
  }

  -- ---- expansions

  advances_later : {A : Type 0} (a b : Progress) (r : Expanded A) → Advanced limit a b → Advances limit b r → Advances limit a r
  advances_later a b (Makes v p) g h = advanced_then a b p g h
  advances_later a b (Fails fault p) g h = (advanced_then a b p g h.0, h.1)

  pub advances_then : {A B : Type 0} (a : Progress) (r : Expanded A) (go : A → Progress → Expanded B) → Advances limit a r → ((v : A) (p : Progress) → Advances limit p (go v p)) → Advances limit a (then_make r go)
  advances_then a (Makes v p) go h k = advances_later a p (go v p) h (k v p)
  advances_then a (Fails fault p) go h k = h

  -- ---- uses

  -- a use at a place counts
  abbrev Looks : Progress → Expanded Made → Type 0
  Looks old (Makes (Again o) new) = Advanced limit old new × (old.calls < new.calls)
  Looks old (Makes (Stays f) new) = Advanced limit old new
  Looks old (Fails fault new) = Advanced limit old new × (IsOutOfSteps fault → limit ≤ new.calls)

  abbrev one_use : Progress → Progress
  one_use p = record p { calls = p.calls + 1; outer = p.outer + 1 }

  advanced_use : (a b : Progress) → a.calls < limit → Advanced limit (one_use a) b → Advanced limit a b
  advanced_use a b l g = record {
    calls = omega (arith, g.calls);
    within = λ q. g.within (omega arith);
    outer = omega (arith, g.outer);
    outer_calls = omega (arith, g.outer_calls);
    symbols = g.symbols;
  }

  looks_use : (a : Progress) (r : Expanded Made) → a.calls < limit → Advances limit (one_use a) r → Looks a r
  looks_use a (Makes (Again o) p) l h = (advanced_use a p l h, omega (arith, h.calls))
  looks_use a (Makes (Stays f) p) l h = advanced_use a p l h
  looks_use a (Fails fault p) l h = (advanced_use a p l h.0, h.1)

  looks_counting : (a : Progress) (go : Progress → Expanded Made) → ((p : Progress) → Advances limit p (go p)) → Looks a (counting_expansion limit go a)
  looks_counting a go h = by_test (nat_lt a.calls limit) refl
    where
      by_test : (b : Bool) → nat_lt a.calls limit ≡ b → Looks a (if b then go (one_use a) else Fails (MacroStopped Steps None) a)
      by_test true e = looks_use a (go (one_use a)) (ltb-true a.calls limit e) (h (one_use a))
      by_test false e = (advanced_same a, λ q. not_less a.calls limit e)

  looks_settles : (a : Progress) (r : Expanded Made) (go : Settle) → Looks a r → ((o : Object ℕ) (p : Progress) → a.calls < p.calls → Advances limit p (go o p)) → Advances limit a (then_make r (settles go))
  looks_settles a (Makes (Again o) p) go h k = advances_later a p (go o p) h.0 (k o p h.1)
  looks_settles a (Makes (Stays f) p) go h k = h
  looks_settles a (Fails fault p) go h k = h

  advances_again : (p : Progress) (r : Outcome ℕ) → Counts limit (begun p.symbols [] p.calls) r → Advances limit p (again p r)
  advances_again p (Gives values state) h = advanced_state p (here state) state h
  advances_again p (Stops stop origin state) h = (advanced_state p origin state h.0, h.1)
  advances_again p Unknown h = absurd h

-- ---- faults that are none of steps

abbrev IsOther : Option ExpandFault → Type 0
IsOther None = Unit {0}
IsOther (Some fault) = IsOutOfSteps fault → ⊥

abbrev IsOtherLook : Look → Type 0
IsOtherLook (Stands f) = Unit {0}
IsOtherLook (Bad fault) = IsOutOfSteps fault → ⊥
IsOtherLook (Use s row d) = Unit {0}
IsOtherLook (UserUse s formals body d) = Unit {0}

other_or : (a b : Option ExpandFault) → IsOther a → IsOther b → IsOther (option_or a b)
other_or None b h k = k
other_or (Some fault) b h k = h

module _ (x : Setting) where
  other_core : (s : ℕ) (m : Option Made) → IsOtherLook (core_look s m)
  other_core s None = λ q. q
  other_core s (Some (Stays f)) = tt
  other_core s (Some (Again o)) = λ q. q

  other_call : (s arity : ℕ) (os : Option (List (Object ℕ))) → IsOtherLook (call_look s arity os)
  other_call s arity None = λ q. q
  other_call s arity (Some os) = go (nat_eq (length os) arity)
    where
      go : (b : Bool) → IsOtherLook (if b then Stands (Node (CallNode s) (map Form os)) else Bad (Arity s))
      go true = tt
      go false = λ q. q

  other_function : (s : ℕ) (d : Object ℕ) (arity : Option ℕ) → IsOtherLook (function_look s d arity)
  other_function s d None = λ q. q
  other_function s d (Some arity) = other_call s arity (elements d)

  other_defined : (s : ℕ) (d : Object ℕ) (found : Option Definition) → IsOtherLook (defined_look s d found)
  other_defined s d None = λ q. q
  other_defined s d (Some (Macro name formals body)) = tt
  other_defined s d (Some found) = other_function s d (arity_of (Some found))

  other_macro : (symbols : List QualifiedName) (s : ℕ) (d : Object ℕ) (row : Option MacroRow) → IsOtherLook (macro_look x symbols s d row)
  other_macro symbols s d None = other_defined s d (definition x.world s)
  other_macro symbols s d (Some row) = tt

  other_headed : (symbols : List QualifiedName) (s : ℕ) (d : Object ℕ) (row : Option MacroRow) → IsOtherLook (headed_look x symbols s d row)
  other_headed symbols s d None = other_macro symbols s d (macro_row s)
  other_headed symbols s d (Some row) = other_core s (option_and_then (made_of symbols row) (elements d))

  other_list : (symbols : List QualifiedName) (a d : Object ℕ) → IsOtherLook (list_look x symbols a d)
  other_list symbols (Integer n) d = λ q. q
  other_list symbols (Symbol s) d = other_headed symbols s d (core_row s)
  other_list symbols (Text bytes) d = λ q. q
  other_list symbols (Pair a b) d = λ q. q

  other_at : (symbols : List QualifiedName) (o : Object ℕ) → IsOtherLook (look_at x symbols o)
  unfolding look_at
  other_at symbols (Integer n) = tt
  other_at symbols (Symbol s) = tt
  other_at symbols (Text bytes) = tt
  other_at symbols (Pair a d) = other_list symbols a d

  other_head : (f n : ℕ) (arity : Option ℕ) → IsOther (head_fault x f n arity)
  other_head f n None = λ q. q
  other_head f n (Some arity) = go (nat_eq n arity)
    where
      go : (b : Bool) → IsOther (if b then None else Some (Arity f))
      go true = tt
      go false = λ q. q

  other_room : (left : ℕ) (fault : Option ExpandFault) → IsOther fault → IsOther (if_room x left fault)
  other_room zero fault h = λ q. q
  other_room (suc left) fault h = h

  mutual
    other_ready : (f : Core) (left : ℕ) → IsOther (ready_fault x f left)
    other_ready (Var v) left = other_room left None tt
    other_ready (Const o) left = other_room left None tt
    other_ready (If a b c) left = other_room left _ (other_or _ _ (other_ready a (left - 1)) (other_or _ _ (other_ready b (left - 1)) (other_ready c (left - 1))))
    other_ready (Let names forms body) left = other_room left _ (other_or _ _ (other_faults forms (left - 1)) (other_ready body (left - 1)))
    other_ready (Mv fs) left = other_room left _ (other_faults fs (left - 1))
    other_ready (MvLet names form body) left = other_room left _ (other_or _ _ (other_ready form (left - 1)) (other_ready body (left - 1)))
    other_ready (StobjLet names forms vars producer consumer) left =
        other_room left _ (other_or _ _ (other_faults forms (left - 1)) (other_or _ _ (other_ready producer (left - 1)) (other_ready consumer (left - 1))))
    other_ready (WithLocal stobj names producer body) left = other_room left _ (other_or _ _ (other_ready producer (left - 1)) (other_ready body (left - 1)))
    other_ready (MustBeEqual logic exec) left = other_room left _ (other_or _ _ (other_ready logic (left - 1)) (other_ready exec (left - 1)))
    other_ready (Call f fs) left = other_room left _ (other_or _ _ (other_head f (count fs) (arity_of (definition x.world f))) (other_faults fs (left - 1)))

    other_faults : (fs : Cores) (left : ℕ) → IsOther (ready_faults x fs left)
    other_faults none left = tt
    other_faults (more f fs) left = other_or _ _ (other_ready f left) (other_faults fs left)

module _ (x : Setting) where
  -- ---- one place

  -- what is made of a shape, and of the values of a macro's formals
  abbrev pub shaped : ℕ → Progress → Option Made → Expanded Made
  shaped s p None = Fails (BadShape s) p
  shaped s p (Some m) = Makes m p

  advances_shaped : (s : ℕ) (p : Progress) (m : Option Made) → Advances x.steps p (shaped s p m)
  advances_shaped s p None = (advanced_same x.steps p, λ q. absurd q)
  advances_shaped s p (Some m) = advanced_same x.steps p

  advances_built : (s : ℕ) (row : MacroRow) (d : Object ℕ) (p : Progress) → Advances x.steps p (built x s row d p)
  advances_built s row d p = advances_shaped s p (option_and_then (made_of p.symbols row) (elements d))

  abbrev pub with_values : ℕ → MacroFormals → Core → Progress → Option (List (Object ℕ)) → Expanded Made
  with_values s formals body p None = Fails (MacroArgs s) p
  with_values s formals body p (Some values) = again p (body_value x formals body values p)

  advances_values : (s : ℕ) (formals : MacroFormals) (body : Core) (p : Progress) (values : Option (List (Object ℕ))) → Advances x.steps p (with_values s formals body p values)
  advances_values s formals body p None = (advanced_same x.steps p, λ q. absurd q)
  advances_values s formals body p (Some values) =
      advances_again x.steps p (body_value x formals body values p) (counts_calls.counts x.world x.packages x.steps x.depth body _ (begun p.symbols [] p.calls))

  advances_used : (s : ℕ) (formals : MacroFormals) (body : Core) (os : Option (List (Object ℕ))) (p : Progress) → Advances x.steps p (used x s formals body os p)
  advances_used s formals body None p = (advanced_same x.steps p, λ q. absurd q)
  advances_used s formals body (Some os) p = advances_values s formals body p (macro_values p.symbols formals os)

  looks_looked : (l : Look) (p : Progress) → IsOtherLook l → Looks x.steps p (looked x l p)
  looks_looked (Stands f) p h = advanced_same x.steps p
  looks_looked (Bad fault) p h = (advanced_same x.steps p, λ q. absurd (h q))
  looks_looked (Use s row d) p h = looks_counting x.steps p (built x s row d) (advances_built s row d)
  looks_looked (UserUse s formals body d) p h = looks_counting x.steps p (used x s formals body (elements d)) (advances_used s formals body (elements d))

  looks_at : (o : Object ℕ) (p : Progress) → Looks x.steps p (looked x (look_at x p.symbols o) p)
  looks_at o p = looks_looked (look_at x p.symbols o) p (other_at x p.symbols o)

  -- as many uses as are left
  advances_settled : (left : ℕ) (o : Object ℕ) (p : Progress) → x.steps ≤ p.calls + left → Advances x.steps p (settled x left o p)
  unfolding settled
  advances_settled zero o p enough =
      looks_settles x.steps p _ out_of_steps (looks_at o p) (λ again after later. (advanced_same x.steps after, λ q. omega (arith, enough, later)))
  advances_settled (suc left) o p enough =
      looks_settles x.steps p _ (settled x left) (looks_at o p) (λ again after later. advances_settled left again after (omega (arith, enough, later)))

  advances_settle : (o : Object ℕ) (p : Progress) → Advances x.steps p (settle x o p)
  advances_settle o p = advances_settled (x.steps - p.calls) o p (omega arith)

  -- ---- parts

  advances_row : (m : Option Made) (p : Progress) → Advances x.steps p (row_found x m p)
  advances_row None p = (advanced_same x.steps p, λ q. absurd q)
  advances_row (Some (Again o)) p = advances_settle o p
  advances_row (Some (Stays f)) p = advanced_same x.steps p

  advances_ready_found : (f : Core) (fault : Option ExpandFault) (p : Progress) → IsOther fault → Advances x.steps p (ready_found x f fault p)
  advances_ready_found f None p h = advanced_same x.steps p
  advances_ready_found f (Some fault) p h = (advanced_same x.steps p, λ q. absurd (h q))

  advances_ready : (left : ℕ) (f : Core) (p : Progress) → Advances x.steps p (ready x left f p)
  advances_ready left f p = advances_ready_found f (ready_fault x f left) p (other_ready x f left)

  advances_guard : (left : ℕ) (gs : List GuardItem) (p : Progress) → Advances x.steps p (guard_found x left gs p)
  advances_guard left [] p = advanced_same x.steps p
  advances_guard left (FormHolds o ∷ []) p = advances_settle o p
  advances_guard left (Meets f ∷ []) p = advances_ready left f p
  advances_guard left (g ∷ (h ∷ gs)) p = advanced_same x.steps p

  advances_part : (left : ℕ) (q : Part) (p : Progress) → Advances x.steps p (part_found x left q p)
  advances_part left (Form o) p = advances_settle o p
  advances_part left (Ready f) p = advances_ready left f p
  advances_part left (Rest row os) p = advances_row (made_of p.symbols row os) p
  advances_part left (Guard gs) p = advances_guard left gs p

  -- ---- all places

  abbrev GrowAdvances : Grow → Type 0
  GrowAdvances grow = (q : Part) (p : Progress) → Advances x.steps p (grow q p)

  advances_all : (grow : Grow) (qs : List Part) (done : List Core) (p : Progress) → GrowAdvances grow → Advances x.steps p (grown_all grow qs done p)
  unfolding grown_all
  advances_all grow [] done p h = advanced_same x.steps p
  advances_all grow (q ∷ qs) done p h = advances_then x.steps p _ _ (h q p) (λ f after. advances_all grow qs (done ++ f ∷ []) after h)

  advances_found : (grow : Grow) (f : Found) (p : Progress) → GrowAdvances grow → Advances x.steps p (grown_found grow f p)
  advances_found grow (Leaf f) p h = advanced_same x.steps p
  advances_found grow (Node k qs) p h = advances_then x.steps p _ _ (advances_all grow qs [] p h) (λ fs after. advanced_same x.steps after)

  advances_grown : (left : ℕ) (q : Part) (p : Progress) → Advances x.steps p (grown x left q p)
  unfolding grown
  advances_grown zero q p = (advanced_same x.steps p, λ h. absurd h)
  advances_grown (suc left) q p =
      advances_then x.steps p _ _ (advances_part (suc left) q p) (λ f after. advances_found (grown x left) f after (advances_grown left))

pub expansion_counts : ExpansionCounts
expansion_counts = record { form = λ x o p. advances_grown x deepest_core (Form o) p; guard = λ x gs p. advances_grown x deepest_core (Guard gs) p }
