-- Functions once they are expanded: as they stand in a world by their names, by their signatures, and with their bodies.
use Rattle.std.proofs.Common.{◌≡◌, ℕ, List, [], ◌∷◌, ◌++◌, map, length, Bool, true, false, Option, Some, None, refl, sym, ap, ◌∙◌, subst, inl, inr}
use Rattle.std.specs.Prelude.{nat_eq, unwrap_or, option_map, if◌then◌else◌}
use Rattle.std.specs.Option.{option_or}
use Rattle.std.specs.List.{find, filter}
use Rattle.std.specs.Map.{lookup}
use Rattle.std.proofs.lemmas.Bool.{eqb-true}
use Rattle.std.proofs.lemmas.List.{append-nil, length-map}
use Rattle.model_terms.specs.Worlds.{World, Ordinary, Signature, Definition, definition, definition_name, Named}
use Rattle.model_terms.specs.Classes.{repeats}
use Rattle.model_terms.specs.Rounds.{Member, formal_kind, formal_kinds, clique}
use Rattle.model_eval_laws.proofs.Lists.{same_number}
use Rattle.model_expansion.specs.Expansion.{Setting, Progress, Expanded, Makes, Fails, then_make, expanded, expanded_guard}
use Rattle.model_expansion_forms.specs.Nodes.{IsWellCalled}
use Rattle.model_expansion_forms.specs.Rows.{HasRowFunctions}
use Rattle.model_expansion_forms.proofs.LawLemmas.{forms_are_well_called}
use Rattle.model_events.specs.Functions.{Draft, Candidate, candidate, candidate_expanded, all_expanded, ordinary_signature, before_rounds, running, signatures, signature_for}
use Rattle.model_made.proofs.WorldLemmas.{definition_both}
use Rattle.model_made.proofs.MemberLemmas.{IsIn, AreApart, signature_kinds, signature_there, named_member}
use Rattle.model_made.proofs.DraftLemmas.{AreNew, named_draft, IsSound, AreSound}

-- ---- expansion

abbrev pub named : Candidate → Definition
named c = Named c.member.name c.member.formals

-- a guard and a body that an expansion made in this world, and different formals
pub record IsExpanded (w : World) (c : Candidate) : Type 0 where
  pub guard : IsWellCalled w c.member.guard
  pub body : IsWellCalled w c.member.body
  pub differ : repeats c.member.formals ≡ false

abbrev pub AreExpanded : World → List Candidate → Type 0
AreExpanded w [] = Unit {0}
AreExpanded w (c ∷ cs) = IsExpanded w c × AreExpanded w cs

last_expanded : (w : World) (cs : List Candidate) (c : Candidate) → AreExpanded w cs → IsExpanded w c → AreExpanded w (cs ++ c ∷ [])
last_expanded w [] c h k = (k, tt)
last_expanded w (d ∷ cs) c h k = (h.0, last_expanded w cs c h.1 k)

last_named : (cs : List Candidate) (c : Candidate) (rest : List Definition) → map named (cs ++ c ∷ []) ++ rest ≡ map named cs ++ (named c ∷ rest)
last_named [] c rest = refl
last_named (d ∷ cs) c rest = ap (λ (ds : List Definition). named d ∷ ds) (last_named cs c rest)

abbrev pub IfMakes : {A : Type 0} → (A → Type 0) → Expanded A → Type 0
IfMakes P (Makes a p) = P a
IfMakes P (Fails fault p) = Unit {0}

makes_then : {A B : Type 0} (Q : B → Type 0) (e : Expanded A) (go : A → Progress → Expanded B) → ((a : A) (p : Progress) → e ≡ Makes a p → IfMakes Q (go a p)) → IfMakes Q (then_make e go)
makes_then Q (Makes a p) go h = h a p refl
makes_then Q (Fails fault p) go h = tt

module _ (x : Setting) (r : HasRowFunctions x.world) where
  -- of this draft
  abbrev IsOf : Draft → Candidate → Type 0
  IsOf d c = (named c ≡ named_draft d) × IsExpanded x.world c

  one_expanded : (d : Draft) (p : Progress) → IsSound d → IfMakes (IsOf d) (candidate_expanded x d p)
  one_expanded d p s =
      makes_then (IsOf d) (expanded_guard x d.declared.guards p) (λ guard after. then_make (expanded x d.body after) (λ body last. Makes (candidate d guard body) last)) (λ guard after made.
      makes_then (IsOf d) (expanded x d.body after) (λ body last. Makes (candidate d guard body) last) (λ body last same. (
        refl,
        record {
          guard = forms_are_well_called.guard x r d.declared.guards s.shaped p after guard made;
          body = forms_are_well_called.form x r d.body after last body same;
          differ = s.differ;
        },
      )))

  -- all of them, after those that are done
  record AreOf (done : List Candidate) (ds : List Draft) (cs : List Candidate) : Type 0 where
    names : map named cs ≡ map named done ++ map named_draft ds
    each : AreExpanded x.world cs

  all_of : (ds : List Draft) (done : List Candidate) (p : Progress) → AreSound ds → AreExpanded x.world done → IfMakes (AreOf done ds) (all_expanded x ds done p)
  all_of [] done p s h = record { names = sym (append-nil (map named done)); each = h }
  all_of (d ∷ ds) done p s h =
      then_rest (candidate_expanded x d p) (one_expanded d p s.0) (λ c after is. all_of ds (done ++ c ∷ []) after s.1 (last_expanded x.world done c h is.1))
    where
      wider : (c : Candidate) → IsOf d c → (e : Expanded (List Candidate)) → IfMakes (AreOf (done ++ c ∷ []) ds) e → IfMakes (AreOf done (d ∷ ds)) e
      wider c is (Makes cs q) k = record {
        names = k.names ∙ (last_named done c (map named_draft ds) ∙ ap (λ (e : Definition). map named done ++ (e ∷ map named_draft ds)) is.0);
        each = k.each;
      }
      wider c is (Fails fault q) k = tt

      then_rest : (e : Expanded Candidate) → IfMakes (IsOf d) e → ((c : Candidate) (after : Progress) → IsOf d c → IfMakes (AreOf (done ++ c ∷ []) ds) (all_expanded x ds (done ++ c ∷ []) after))
          → IfMakes (AreOf done (d ∷ ds)) (then_make e (λ c after. all_expanded x ds (done ++ c ∷ []) after))
      then_rest (Makes c after) i k = wider c i (all_expanded x ds (done ++ c ∷ []) after) (k c after i)
      then_rest (Fails fault after) i k = tt

  pub record AreMadeOf (ds : List Draft) (cs : List Candidate) : Type 0 where
    pub names : map named cs ≡ map named_draft ds
    pub each : AreExpanded x.world cs

  pub drafts_expanded : (ds : List Draft) (p q : Progress) (cs : List Candidate) → AreSound ds → all_expanded x ds [] p ≡ Makes cs q → AreMadeOf ds cs
  drafts_expanded ds p q cs s e =
      let is : AreOf [] ds cs = subst (λ (y : Expanded (List Candidate)). IfMakes (AreOf [] ds) y) e (all_of ds [] p s tt) in
      record { names = is.names; each = is.each }

-- ---- by their names

abbrev pub candidate_at : List Candidate → ℕ → Option Candidate
candidate_at cs x = find (λ (c : Candidate). nat_eq x c.member.name) cs

-- what stands in a world for each
pub record Stand (f : Candidate → Definition) : Type 0 where
  pub names : (c : Candidate) → definition_name (f c) ≡ c.member.name

module _ (f : Candidate → Definition) (stand : Stand f) where
  pub standing_at : (cs : List Candidate) (x : ℕ) → definition (map f cs) x ≡ option_map f (candidate_at cs x)
  standing_at [] x = refl
  standing_at (c ∷ cs) x =
      ap (λ (n : ℕ). if nat_eq x n then Some (f c) else definition (map f cs) x) (stand.names c) ∙ go (nat_eq x c.member.name) (standing_at cs x)
    where
      go : (b : Bool) → definition (map f cs) x ≡ option_map f (candidate_at cs x) → (if b then Some (f c) else definition (map f cs) x) ≡ option_map f (if b then Some c else candidate_at cs x)
      go true later = refl
      go false later = later

  -- in a world, behind its definitions
  pub standing_in : (w : World) (cs : List Candidate) (x : ℕ) → definition (w ++ map f cs) x ≡ option_or (definition w x) (option_map f (candidate_at cs x))
  standing_in w cs x = definition_both w (map f cs) x ∙ ap (option_or (definition w x)) (standing_at cs x)

pub named_stand : Stand named
named_stand = record { names = λ c. refl }

-- a candidate that is found is one of them
pub is_found : (cs : List Candidate) (x : ℕ) (c : Candidate) → candidate_at cs x ≡ Some c → IsIn c cs × (x ≡ c.member.name)
is_found [] x c e = cc
is_found (d ∷ cs) x c e = go (nat_eq x d.member.name) refl e (is_found cs x c)
  where
    some_is : Some d ≡ Some c → d ≡ c
    some_is f = cc

    go : (b : Bool) → nat_eq x d.member.name ≡ b → (if b then Some d else candidate_at cs x) ≡ Some c → (candidate_at cs x ≡ Some c → IsIn c cs × (x ≡ c.member.name)) → IsIn c (d ∷ cs) × (x ≡ c.member.name)
    go true f g later = (inl (sym (some_is g)), eqb-true x d.member.name f ∙ ap (λ (k : Candidate). k.member.name) (some_is g))
    go false f g later = let h = later g in (inr h.0, h.1)

true_is_false : {A : Type 0} → true ≡ false → A
true_is_false e = cc

no_some : {A B : Type 0} {a : A} → None ≡ Some a → B
no_some e = cc

-- names that are new are found
module _ (w : World) where
  pub found_in : (cs : List Candidate) → AreNew w (map named cs) → (c : Candidate) → IsIn c cs → candidate_at cs c.member.name ≡ Some c
  found_in [] n c i = absurd i
  found_in (d ∷ cs) n c (inl same) =
      subst (λ (k : Candidate). (if nat_eq k.member.name d.member.name then Some d else candidate_at cs k.member.name) ≡ Some k) (sym same)
      (ap (λ (b : Bool). if b then Some d else candidate_at cs d.member.name) (same_number d.member.name))
  found_in (d ∷ cs) n c (inr i) = go (nat_eq c.member.name d.member.name) refl (found_in cs n.2 c i)
    where
      nothing : definition (map named cs) d.member.name ≡ None
      nothing = n.1

      there : candidate_at cs c.member.name ≡ Some c → definition (map named cs) c.member.name ≡ Some (named c)
      there e = standing_at named named_stand cs c.member.name ∙ ap (option_map named) e

      go : (b : Bool) → nat_eq c.member.name d.member.name ≡ b → candidate_at cs c.member.name ≡ Some c → (if b then Some d else candidate_at cs c.member.name) ≡ Some c
      go true f g = no_some (sym nothing ∙ (ap (definition (map named cs)) (sym (eqb-true c.member.name d.member.name f)) ∙ there g))
      go false f g = g

  pub new_name : (cs : List Candidate) → AreNew w (map named cs) → (c : Candidate) → IsIn c cs → definition w c.member.name ≡ None
  new_name [] n c i = absurd i
  new_name (d ∷ cs) n c (inl same) = subst (λ (k : Candidate). definition w k.member.name ≡ None) (sym same) n.0
  new_name (d ∷ cs) n c (inr i) = new_name cs n.2 c i

pub expanded_in : (w : World) (cs : List Candidate) → AreExpanded w cs → (c : Candidate) → IsIn c cs → IsExpanded w c
expanded_in w [] h c i = absurd i
expanded_in w (d ∷ cs) h c (inl same) = subst (IsExpanded w) (sym same) h.0
expanded_in w (d ∷ cs) h c (inr i) = expanded_in w cs h.1 c i

-- ---- those that run

pub runs_in : (cs : List Candidate) (c : Candidate) → IsIn c cs → c.executable ≡ true → IsIn c.member (running cs)
runs_in [] c i e = absurd i
runs_in (d ∷ cs) c (inl same) e = go d.executable (sym (ap (λ (k : Candidate). k.executable) same) ∙ e)
  where
    go : (b : Bool) → b ≡ true → IsIn c.member (map (λ (c : Candidate). c.member) (if b then d ∷ filter (λ (c : Candidate). c.executable) cs else filter (λ (c : Candidate). c.executable) cs))
    go true f = inl (ap (λ (k : Candidate). k.member) same)
    go false f = cc
runs_in (d ∷ cs) c (inr i) e = go d.executable (runs_in cs c i e)
  where
    go : (b : Bool) → IsIn c.member (running cs) → IsIn c.member (map (λ (c : Candidate). c.member) (if b then d ∷ filter (λ (c : Candidate). c.executable) cs else filter (λ (c : Candidate). c.executable) cs))
    go true k = inr k
    go false k = k

-- the candidate of a member that runs
pub record RunsAs (cs : List Candidate) (m : Member) : Type 0 where
  pub candidate : Candidate
  pub there : IsIn candidate cs
  pub member : m ≡ candidate.member
  pub runs : candidate.executable ≡ true

pub running_is : (cs : List Candidate) (m : Member) → IsIn m (running cs) → RunsAs cs m
running_is [] m i = absurd i
running_is (d ∷ cs) m i = go d.executable refl i (running_is cs m)
  where
    wider : RunsAs cs m → RunsAs (d ∷ cs) m
    wider h = record { candidate = h.candidate; there = inr h.there; member = h.member; runs = h.runs }

    go : (b : Bool) → d.executable ≡ b → IsIn m (map (λ (c : Candidate). c.member) (if b then d ∷ filter (λ (c : Candidate). c.executable) cs else filter (λ (c : Candidate). c.executable) cs))
        → (IsIn m (running cs) → RunsAs cs m) → RunsAs (d ∷ cs) m
    go true f (inl same) later = record { candidate = d; there = inl refl; member = same; runs = f }
    go true f (inr j) later = wider (later j)
    go false f j later = wider (later j)

module _ (w : World) (cs : List Candidate) (n : AreNew w (map named cs)) where
  pub one_candidate : (c d : Candidate) → IsIn c cs → IsIn d cs → c.member.name ≡ d.member.name → c ≡ d
  one_candidate c d i j e = is (sym (found_in w cs n c i) ∙ (ap (candidate_at cs) e ∙ found_in w cs n d j))
    where
      is : Some c ≡ Some d → c ≡ d
      is f = cc

  pub members_apart : AreApart (running cs)
  members_apart = record { each = apart }
    where
      apart : (a b : Member) → IsIn a (running cs) → IsIn b (running cs) → a.name ≡ b.name → a ≡ b
      apart a b i j e =
          let p = running_is cs a i in
          let q = running_is cs b j in
          let same : p.candidate ≡ q.candidate = one_candidate p.candidate q.candidate p.there q.there (sym (ap (λ (m : Member). m.name) p.member) ∙ (e ∙ ap (λ (m : Member). m.name) q.member)) in
          p.member ∙ (ap (λ (k : Candidate). k.member) same ∙ sym q.member)

  -- ---- signatures

  abbrev pub known : List (ℕ × Signature)
  known = signatures w cs

  abbrev rounds_world : World
  rounds_world = w ++ map before_rounds cs

  -- the signature of a function that runs has the kinds of its formals
  pub running_kinds : (c : Candidate) → IsIn c cs → c.executable ≡ true → (signature_for known c).ins ≡ formal_kinds rounds_world c.member
  running_kinds c i e =
      let m : IsIn c.member (running cs) = runs_in cs c i e in
      let there = signature_there rounds_world (running cs) members_apart c.member m in
      ap (λ (v : Option Signature). (unwrap_or v (ordinary_signature c.member.formals)).ins) there.1
      ∙ signature_kinds rounds_world (running cs) members_apart c.member.name there.0 there.1 c.member m refl

  -- each signature has as many inputs as formals
  pub as_many_inputs : (c : Candidate) → IsIn c cs → length (signature_for known c).ins ≡ length c.member.formals
  as_many_inputs c i = go (lookup (nat_eq c.member.name) known) refl
    where
      as_kinds : length (formal_kinds rounds_world c.member) ≡ length c.member.formals
      as_kinds = length-map c.member.formals (formal_kind rounds_world c.member.stobjs)

      plain : length (map (λ (x : ℕ). Ordinary) c.member.formals) ≡ length c.member.formals
      plain = length-map c.member.formals (λ (x : ℕ). Ordinary)

      of_name : (s : Signature) → lookup (nat_eq c.member.name) known ≡ Some s → (m : Member) → IsIn m (running cs) → m.name ≡ c.member.name → length s.ins ≡ length c.member.formals
      of_name s f m j e =
          let p = running_is cs m j in
          let same : p.candidate ≡ c = one_candidate p.candidate c p.there i (sym (ap (λ (m : Member). m.name) p.member) ∙ e) in
          let member : m ≡ c.member = p.member ∙ ap (λ (k : Candidate). k.member) same in
          ap length (signature_kinds rounds_world (running cs) members_apart c.member.name s f m j e) ∙ (ap (λ (m : Member). length (formal_kinds rounds_world m)) member ∙ as_kinds)

      go : (v : Option Signature) → lookup (nat_eq c.member.name) known ≡ v → length (unwrap_or v (ordinary_signature c.member.formals)).ins ≡ length c.member.formals
      go None f = plain
      go (Some s) f = let m = named_member (running cs) (clique rounds_world (running cs)) c.member.name s f in of_name s f m.0 m.1 m.2
