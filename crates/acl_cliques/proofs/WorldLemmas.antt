-- Functions that come into a world with their entries, and go out of it.
use Rattle.std.specs.Prelude.{◌≡◌, ℕ, zero, suc, ◌+◌, ◌<◌, ◌≤◌, List, [], ◌∷◌, ◌++◌, length, map, take, Bool, true, false, Option, None, nat_eq, option_map, if◌then◌else◌, refl}
use Rattle.std.specs.List.{All, IsDistinct}
use Rattle.std.proofs.Common.{sym, ap, ◌∙◌, get_or, arith}
use Rattle.std.proofs.Math.Seq.{take-append_seam}
use Rattle.std.proofs.lemmas.List.{length-append}
use Rattle.acl_heap.specs.Objects.{Objects}
use Rattle.model_terms.specs.Faults.{clique_fault}
use Rattle.model_terms.specs.Faults as faults
use Rattle.model_terms.specs.Outputs.{Known}
use Rattle.model_terms.specs.Worlds as worlds
use Rattle.model_expansion.specs.Expansion.{Progress}
use Rattle.model_expansion.specs.Faults.{Thread}
use Rattle.model_stobjs.specs.Answers.{Grants, unless}
use Rattle.model_stobjs.specs.Heads.{name_in_use}
use Rattle.model_events.specs.Functions.{Candidate, members, before_rounds, ordinary_signature, signatures, signed, defined, candidates_then}
use Rattle.acl_terms.specs.declared.definition.Definition.{Definition}
use Rattle.acl_terms.specs.declared.definition.Definition.TheVariants as definition
use Rattle.acl_terms.specs.declared.fault.ThreadFault.{ThreadFault}
use Rattle.acl_terms.specs.declared.fault.ThreadFault.TheVariants as fault
use Rattle.acl_terms.specs.Definitions.{seen_definition, seen_definitions, FitsTable}
use Rattle.acl_worlds.specs.Contents.{Content, IsWorld, seen_world, names_in, cut}
use Rattle.acl_worlds.proofs.WorldLemmas.{seen_names}
use Rattle.acl_check.specs.declared.member.Member.{Member}
use Rattle.acl_check.specs.Members.{seen_member, seen_members}
use Rattle.acl_check.specs.Says.{Says}
use Rattle.acl_definitions.specs.Added.{with_definitions}
use Rattle.acl_definitions.proofs.LawLemmas.{are_added}
use Rattle.acl_signatures.specs.Candidates.{seen_candidates}
use Rattle.acl_cliques.specs.Worlds.{names_of, signed_world, Refused}

-- ---- functions by their members

pub members_are : (h : Objects) (ms : List Member) (bs : List Bool) → length bs ≡ length ms → members (seen_candidates h ms bs) ≡ seen_members h ms
members_are h [] bs e = refl
members_are h (m ∷ ms) [] e = absurd (omega (arith, e))
members_are h (m ∷ ms) (b ∷ bs) e = ap (λ xs. seen_member h m ∷ xs) (members_are h ms bs (omega (arith, e)))

abbrev names_from : List Candidate → List ℕ
names_from cs = map (λ (c : Candidate). c.member.name) cs

names_are : (h : Objects) (ms : List Member) (bs : List Bool) → length bs ≡ length ms → names_from (seen_candidates h ms bs) ≡ names_of ms
names_are h [] bs e = refl
names_are h (m ∷ ms) [] e = absurd (omega (arith, e))
names_are h (m ∷ ms) (b ∷ bs) e = ap (λ xs. m.name.0 ∷ xs) (names_are h ms bs (omega (arith, e)))

-- ---- entries

abbrev is_row : worlds.Definition → Bool
is_row (worlds.Primitive name row) = true
is_row (worlds.Defined f) = false
is_row (worlds.Macro name formals body) = false
is_row (worlds.Constant name value) = false
is_row (worlds.Concrete d class) = false
is_row (worlds.Generated f) = false
is_row (worlds.Abstract d) = false
is_row (worlds.OfAbstract f) = false
is_row (worlds.Named name formals) = false
is_row (worlds.Signed name formals signature executable) = false

fits_seen : (h : Objects) (d : Definition) → is_row (seen_definition h d) ≡ false → FitsTable d
fits_seen h (definition.Primitive name row arity) e = absurd (cc)
fits_seen h (definition.Function f) e = tt
fits_seen h (definition.Macro m) e = tt
fits_seen h (definition.Constant name value) e = tt
fits_seen h (definition.Object descriptor layout class) e = tt
fits_seen h (definition.Generated f) e = tt
fits_seen h (definition.Abstract descriptor) e = tt
fits_seen h (definition.OfAbstract f) e = tt
fits_seen h (definition.Named name formals) e = tt
fits_seen h (definition.Signed name formals signature executable) e = tt

module _ (h : Objects) (g : Candidate → worlds.Definition) (name : (c : Candidate) → worlds.definition_name (g c) ≡ c.member.name) (plain : (c : Candidate) → is_row (g c) ≡ false) where
  names_made : (cs : List Candidate) → map worlds.definition_name (map g cs) ≡ names_from cs
  names_made [] = refl
  names_made (c ∷ cs) = rw (name c, names_made cs) refl

  are_distinct : (w : Content) (ms : List Member) (bs : List Bool) (ds : List Definition) → IsWorld w → name_in_use (seen_world h w) (names_of ms) ≡ None → length bs ≡ length ms
      → seen_definitions h ds ≡ map g (seen_candidates h ms bs) → IsDistinct nat_eq (names_in (w.definitions ++ ds))
  are_distinct w ms bs ds i n l e =
      let names : names_in ds ≡ names_of ms = sym (seen_names h ds) ∙ (ap (λ xs. map worlds.definition_name xs) e ∙ (names_made (seen_candidates h ms bs) ∙ names_are h ms bs l)) in
      are_added.fresh h w ds i (ap (λ xs. name_in_use (seen_world h w) xs) names ∙ n)

  all_fit : (cs : List Candidate) (ds : List Definition) → seen_definitions h ds ≡ map g cs → (k : ℕ) (d : Definition) → k < length ds → FitsTable (get_or ds k d)
  all_fit cs [] e k z l = absurd (omega (arith, l))
  all_fit [] (d ∷ ds) e k z l = absurd (cc)
  all_fit (c ∷ cs) (d ∷ ds) e zero z l = let first : seen_definition h d ≡ g c = cc in fits_seen h d (ap is_row first ∙ plain c)
  all_fit (c ∷ cs) (d ∷ ds) e (suc k) z l = let rest : seen_definitions h ds ≡ map g cs = cc in all_fit cs ds rest k z (omega (arith, l))

before_name : (c : Candidate) → worlds.definition_name (before_rounds c) ≡ c.member.name
before_name c = go c.executable
  where
    go : (b : Bool) → worlds.definition_name (if b then worlds.Named c.member.name c.member.formals else worlds.Signed c.member.name c.member.formals (ordinary_signature c.member.formals) false) ≡ c.member.name
    go true = refl
    go false = refl

before_plain : (c : Candidate) → is_row (before_rounds c) ≡ false
before_plain c = go c.executable
  where
    go : (b : Bool) → is_row (if b then worlds.Named c.member.name c.member.formals else worlds.Signed c.member.name c.member.formals (ordinary_signature c.member.formals) false) ≡ false
    go true = refl
    go false = refl

module _ (h : Objects) (ms : List Member) (bs : List Bool) (ds : List Definition) where
  pub before_distinct : (w : Content) → IsWorld w → name_in_use (seen_world h w) (names_of ms) ≡ None → length bs ≡ length ms → seen_definitions h ds ≡ map before_rounds (seen_candidates h ms bs)
      → IsDistinct nat_eq (names_in (w.definitions ++ ds))
  before_distinct w i n l e = are_distinct h before_rounds before_name before_plain w ms bs ds i n l e

  pub before_fit : seen_definitions h ds ≡ map before_rounds (seen_candidates h ms bs) → All FitsTable ds
  before_fit e = λ k d l. all_fit h before_rounds before_name before_plain (seen_candidates h ms bs) ds e k d l

  pub signed_distinct : (w : Content) (known : Known) → IsWorld w → name_in_use (seen_world h w) (names_of ms) ≡ None → length bs ≡ length ms
      → seen_definitions h ds ≡ map (signed known) (seen_candidates h ms bs) → IsDistinct nat_eq (names_in (w.definitions ++ ds))
  signed_distinct w known i n l e = are_distinct h (signed known) (λ c. refl) (λ c. refl) w ms bs ds i n l e

  pub signed_fit : (known : Known) → seen_definitions h ds ≡ map (signed known) (seen_candidates h ms bs) → All FitsTable ds
  signed_fit known e = λ k d l. all_fit h (signed known) (λ c. refl) (λ c. refl) (seen_candidates h ms bs) ds e k d l

  pub defined_distinct : (w : Content) (known : Known) → IsWorld w → name_in_use (seen_world h w) (names_of ms) ≡ None → length bs ≡ length ms
      → seen_definitions h ds ≡ map (defined known) (seen_candidates h ms bs) → IsDistinct nat_eq (names_in (w.definitions ++ ds))
  defined_distinct w known i n l e = are_distinct h (defined known) (λ c. refl) (λ c. refl) w ms bs ds i n l e

  pub defined_fit : (known : Known) → seen_definitions h ds ≡ map (defined known) (seen_candidates h ms bs) → All FitsTable ds
  defined_fit known e = λ k d l. all_fit h (defined known) (λ c. refl) (λ c. refl) (seen_candidates h ms bs) ds e k d l

-- ---- a world with entries, and without them again

pub seen_with : (h : Objects) (w v : Content) (ds : List Definition) (es : List worlds.Definition) → v ≡ with_definitions w ds → seen_definitions h ds ≡ es → seen_world h v ≡ seen_world h w ++ es
seen_with h w v ds es e s = ap (λ (x : Content). seen_world h x) e ∙ (are_added.seen h w ds ∙ ap (λ xs. seen_world h w ++ xs) s)

take_whole : {A : Type 0} (xs : List A) → take (length xs) xs ≡ xs
take_whole [] = refl
take_whole (x ∷ xs) = ap (λ ys. x ∷ ys) (take_whole xs)

cut_same : (w : Content) (ds : List Definition) → cut (with_definitions w ds) (length w.definitions) (length w.layouts) ≡ w
cut_same w ds = rw (take-append_seam w.definitions ds, take_whole w.layouts) refl

pub cut_back : (w v : Content) (ds : List Definition) (n k : ℕ) → v ≡ with_definitions w ds → n ≡ length w.definitions → k ≡ length w.layouts → cut v n k ≡ w
cut_back w v ds n k e a b = ap (λ (x : Content). cut x n k) e ∙ (ap (λ (x : ℕ). cut (with_definitions w ds) x k) a ∙ (ap (λ (x : ℕ). cut (with_definitions w ds) (length w.definitions) x) b ∙ cut_same w ds))

pub cut_within : (w v : Content) (ds : List Definition) (n : ℕ) → v ≡ with_definitions w ds → n ≡ length w.definitions → n ≤ length v.definitions
cut_within w v ds n e a =
    let l : length v.definitions ≡ length w.definitions + length ds = ap (λ (x : Content). length x.definitions) e ∙ length-append w.definitions ds in
    omega (arith, l, a)

pub cut_layouts : (w v : Content) (ds : List Definition) (k : ℕ) → v ≡ with_definitions w ds → k ≡ length w.layouts → k ≤ length v.layouts
cut_layouts w v ds k e b =
    let l : length v.layouts ≡ length w.layouts = ap (λ (x : Content). length x.layouts) e in
    omega (arith, l, b)

-- ---- what the definition answers

pub refused_by : (w : worlds.World) (cs : List Candidate) (e : ThreadFault) → Says (clique_fault (signed_world w cs) 0 (members cs)) e → Refused w cs e
refused_by w cs (fault.Rule rule place) s = λ p. ap (λ (o : Option faults.Fault). unless (option_map Thread o) (Grants (map (defined (signatures w cs)) cs)) p) s
refused_by w cs fault.Memory s = tt

pub granted : (w : worlds.World) (cs : List Candidate) → clique_fault (signed_world w cs) 0 (members cs) ≡ None → (p : Progress) → candidates_then w cs p ≡ Grants (map (defined (signatures w cs)) cs) p
granted w cs e p = ap (λ (o : Option faults.Fault). unless (option_map Thread o) (Grants (map (defined (signatures w cs)) cs)) p) e
