-- Each function has an output: those that are found in rounds, from worlds whose functions have outputs.
use Rattle.std.proofs.Common.{◌≡◌, ℕ, zero, suc, ◌≤◌, List, [], ◌∷◌, ◌++◌, map, length, Bool, true, false, Option, Some, None, refl, sym, subst, arith}
use Rattle.std.specs.Prelude.{◌&&◌, not, nat_eq, is_some, unwrap_or, option_map, option_and_then, if◌then◌else◌}
use Rattle.std.specs.Option.{option_or, option_map_or}
use Rattle.std.specs.List.{filter, filter_map, cons_option, zip}
use Rattle.std.specs.Map.{lookup}
use Rattle.model_terms.specs.Cores.{Core, Cores, none, more, Var, Const, If, Let, Mv, MvLet, StobjLet, WithLocal, MustBeEqual, Call, count}
use Rattle.model_terms.specs.Worlds.{World, Out, Ordinary, Signature, Scope, Definition, definition, Primitive, Defined, Macro, Constant, Concrete, Generated, Abstract, OfAbstract, Named, Signed}
use Rattle.model_terms.specs.Classes.{stobjs, all_congruent, repeats, renamed, renamed_out, instance_of}
use Rattle.model_terms.specs.Scopes.{binding, consumer_scope, body_scope}
use Rattle.model_terms.specs.Outputs.{Known, signature_in, signature_of, stobj_actuals, all_there, call_outs, part_kinds, outputs}
use Rattle.model_terms.specs.Rounds.{Member, formal_scope, signed, learned, round, rounds, known_at_last}
use Rattle.model_expansion_forms.specs.Nodes.{EachNode, HasSeveral}
use Rattle.model_events.specs.Functions.{Candidate, ordinary_signature, before_rounds, running, signatures, signature_for}
use Rattle.model_made.proofs.WorldLemmas.{EachDefinition, each_found, definition_both}
use Rattle.model_made.proofs.CandidateLemmas.{AreExpanded}
use Rattle.model_made_logic.proofs.StockLemmas.{HasOutput, StockedDefinition, IsStocked}

-- the outputs, where they are known, are one at least
abbrev GivesOutput : Option (List Out) → Type 0
GivesOutput None = Unit {0}
GivesOutput (Some os) = HasOutput os

abbrev pub SignsOutput : Option Signature → Type 0
SignsOutput None = Unit {0}
SignsOutput (Some s) = HasOutput s.outs

abbrev pub AllSignOutput : Known → Type 0
AllSignOutput [] = Unit {0}
AllSignOutput (k ∷ ks) = HasOutput k.1.outs × AllSignOutput ks

pub map_output : (f : Out → Out) (os : List Out) → HasOutput os → HasOutput (map f os)
map_output f [] h = h
map_output f (o ∷ os) h = tt

-- ---- forms

instance_output : (v : World) (s : Signature) (xs : Option (List ℕ)) → HasOutput s.outs → HasOutput (option_map_or (λ (i : Signature). i.outs) (option_and_then (instance_of v s) xs) s.outs)
instance_output v s None h = h
instance_output v s (Some xs) h = go (all_congruent v (stobjs s.ins) xs && not (repeats xs))
  where
    go : (b : Bool) → HasOutput (option_map_or (λ (i : Signature). i.outs) (if b then Some (renamed (zip (stobjs s.ins) xs) s) else None) s.outs)
    go true = map_output (renamed_out (zip (stobjs s.ins) xs)) s.outs h
    go false = h

parts_output : (scope : Scope) (parts : Cores) → 2 ≤ count parts → HasOutput (part_kinds scope parts)
parts_output scope none h = absurd (omega (arith, h))
parts_output scope (more f fs) h = tt

module _ (v : World) (known : Known) (signs : (f : ℕ) → SignsOutput (signature_of v known f)) where
  form_output : (scope : Scope) (f : Core) → EachNode HasSeveral f → GivesOutput (outputs v known scope f)
  unfolding outputs
  form_output scope (Var x) h = tt
  form_output scope (Const o) h = tt
  form_output scope (If a b c) h = go (outputs v known scope b) (outputs v known scope c) (form_output scope b h.2) (form_output scope c h.3)
    where
      go : (p q : Option (List Out)) → GivesOutput p → GivesOutput q → GivesOutput (option_or p q)
      go None q i j = j
      go (Some os) q i j = i
  form_output scope (Let names bound body) h = form_output (binding v scope names) body h.2
  form_output scope (Mv parts) h = parts_output scope parts h.0
  form_output scope (MvLet names bound body) h = form_output (binding v scope names) body h.2
  form_output scope (StobjLet names bound vars producer consumer) h = form_output (consumer_scope v scope names vars) consumer h.3
  form_output scope (WithLocal stobj names producer body) h = form_output (body_scope v scope stobj names) body h.2
  form_output scope (MustBeEqual logic exec) h = form_output scope logic h.1
  form_output scope (Call f actuals) h = go (signature_of v known f) (signs f)
    where
      go : (s : Option Signature) → SignsOutput s → GivesOutput (option_map (λ s. call_outs v s actuals) s)
      go None i = tt
      go (Some s) i = instance_output v s (all_there (stobj_actuals s.ins actuals)) i

-- ---- rounds

found_output : (known : Known) → AllSignOutput known → (f : ℕ) → SignsOutput (lookup (nat_eq f) known)
found_output [] h f = tt
found_output (k ∷ ks) h f = go (nat_eq f k.0) (found_output ks h.1 f)
  where
    go : (b : Bool) → SignsOutput (lookup (nat_eq f) ks) → SignsOutput (if b then Some k.1 else lookup (nat_eq f) ks)
    go true later = h.0
    go false later = later

both_output : (a b : Known) → AllSignOutput a → AllSignOutput b → AllSignOutput (a ++ b)
both_output [] b h k = k
both_output (x ∷ a) b h k = (h.0, both_output a b h.1 k)

abbrev AllSeveral : List Member → Type 0
AllSeveral [] = Unit {0}
AllSeveral (m ∷ ms) = EachNode HasSeveral m.body × AllSeveral ms

module _ (v : World) (there : (f : ℕ) → SignsOutput (option_and_then signature_in (definition v f))) where
  signs_output : (known : Known) → AllSignOutput known → (f : ℕ) → SignsOutput (signature_of v known f)
  signs_output known h f = go (lookup (nat_eq f) known) (option_and_then signature_in (definition v f)) (found_output known h f) (there f)
    where
      go : (p q : Option Signature) → SignsOutput p → SignsOutput q → SignsOutput (option_or p q)
      go None q i j = j
      go (Some s) q i j = i

  all_learned : (known : Known) → AllSignOutput known → (ms : List Member) → AllSeveral ms → AllSignOutput (filter_map (learned v known) ms)
  all_learned known h [] s = tt
  all_learned known h (m ∷ ms) s =
      go (is_some (lookup (nat_eq m.name) known)) (outputs v known (formal_scope v m) m.body) (form_output v known (signs_output known h) (formal_scope v m) m.body s.0) (all_learned known h ms s.1)
    where
      go : (b : Bool) (o : Option (List Out)) → GivesOutput o → AllSignOutput (filter_map (learned v known) ms)
          → AllSignOutput (cons_option (if b then None else option_map (λ outs. (m.name, signed v m outs)) o) (filter_map (learned v known) ms))
      go true o i later = later
      go false None i later = later
      go false (Some os) i later = (i, later)

  rounds_output : (ms : List Member) → AllSeveral ms → (n : ℕ) (known : Known) → AllSignOutput known → AllSignOutput (rounds v ms n known)
  rounds_output ms s zero known h = h
  rounds_output ms s (suc n) known h = rounds_output ms s n (round v ms known) (both_output known (filter_map (learned v known) ms) h (all_learned known h ms s))

  clique_output : (ms ns : List Member) → AllSeveral ms
      → AllSignOutput (zip (map (λ (m : Member). m.name) ns) (map (λ (m : Member). unwrap_or (lookup (nat_eq m.name) (known_at_last v ms)) (signed v m (Ordinary ∷ []))) ns))
  clique_output ms [] s = tt
  clique_output ms (n ∷ ns) s = (go (lookup (nat_eq n.name) (known_at_last v ms)) (found_output (known_at_last v ms) (rounds_output ms s (length ms) [] tt) n.name), clique_output ms ns s)
    where
      go : (p : Option Signature) → SignsOutput p → HasOutput (unwrap_or p (signed v n (Ordinary ∷ []))).outs
      go None i = tt
      go (Some s) i = i

-- ---- functions that are being admitted

running_several : (w : World) (cs : List Candidate) → AreExpanded w cs → AllSeveral (running cs)
running_several w [] h = tt
running_several w (c ∷ cs) h = go c.executable (running_several w cs h.1)
  where
    go : (b : Bool) → AllSeveral (running cs) → AllSeveral (map (λ (c : Candidate). c.member) (if b then c ∷ filter (λ (c : Candidate). c.executable) cs else filter (λ (c : Candidate). c.executable) cs))
    go true later = (h.0.body.several, later)
    go false later = later

stocked_output : (w : World) (d : Definition) → StockedDefinition w d → SignsOutput (signature_in d)
stocked_output w (Primitive name row) h = tt
stocked_output w (Defined f) h = h.2
stocked_output w (Macro name formals body) h = tt
stocked_output w (Constant name value) h = tt
stocked_output w (Concrete d class) h = tt
stocked_output w (Generated g) h = h.output
stocked_output w (Abstract d) h = tt
stocked_output w (OfAbstract f) h = h.output
stocked_output w (Named name formals) h = tt
stocked_output w (Signed name formals signature executable) h = h

module _ (w : World) (stocked : IsStocked w) where
  pub world_output : (f : ℕ) → SignsOutput (option_and_then signature_in (definition w f))
  world_output f = go (definition w f) refl
    where
      go : (v : Option Definition) → definition w f ≡ v → SignsOutput (option_and_then signature_in v)
      go None e = tt
      go (Some d) e = stocked_output w d (stocked.each f d e)

  before_output : (cs : List Candidate) → EachDefinition (λ d. SignsOutput (signature_in d)) (map before_rounds cs)
  before_output [] = tt
  before_output (c ∷ cs) = (go c.executable, before_output cs)
    where
      go : (b : Bool) → SignsOutput (signature_in (if b then Named c.member.name c.member.formals else Signed c.member.name c.member.formals (ordinary_signature c.member.formals) false))
      go true = tt
      go false = tt

  rounds_there : (cs : List Candidate) (f : ℕ) → SignsOutput (option_and_then signature_in (definition (w ++ map before_rounds cs) f))
  rounds_there cs f =
      subst (λ (v : Option Definition). SignsOutput (option_and_then signature_in v)) (sym (definition_both w (map before_rounds cs) f))
      (go (definition w f) (definition (map before_rounds cs) f) refl (world_output f))
    where
      go : (p q : Option Definition) → definition (map before_rounds cs) f ≡ q → SignsOutput (option_and_then signature_in p) → SignsOutput (option_and_then signature_in (option_or p q))
      go None None e h = tt
      go None (Some d) e h = each_found (λ d. SignsOutput (signature_in d)) (map before_rounds cs) (before_output cs) f d e
      go (Some c) q e h = h

  pub signatures_output : (v : World) (cs : List Candidate) → AreExpanded v cs → AllSignOutput (signatures w cs)
  signatures_output v cs h = clique_output (w ++ map before_rounds cs) (rounds_there cs) (running cs) (running cs) (running_several v cs h)

pub signed_output : (sigs : List (ℕ × Signature)) → AllSignOutput sigs → (c : Candidate) → HasOutput (signature_for sigs c).outs
signed_output sigs h c = go (lookup (nat_eq c.member.name) sigs) (found_output sigs h c.member.name)
  where
    go : (p : Option Signature) → SignsOutput p → HasOutput (unwrap_or p (ordinary_signature c.member.formals)).outs
    go None i = tt
    go (Some s) i = i
