-- The definitions of functions, one after another.
use Rattle.std.specs.Prelude.{◌≡◌, ℕ, zero, suc, ◌+◌, ◌<◌, ◌≤◌, List, [], ◌∷◌, ◌++◌, length, map, drop, max, Bool, Option, Some, None, refl}
use Rattle.std.specs.List.{All}
use Rattle.std.proofs.Common.{sym, ap, ◌∙◌, subst, get_or, append_assoc, arith}
use Rattle.std.proofs.Math.ListN.{drop_of_length-le}
use Rattle.std.proofs.lemmas.List.{append-nil, map-append, length-map}
use Rattle.acl_heap.specs.Objects.{Objects}
use Rattle.model_terms.specs.Outputs.{Known}
use Rattle.model_terms.specs.Rounds as rounds
use Rattle.model_terms.specs.Worlds.{World}
use Rattle.model_slots.specs.Trees.{Tree}
use Rattle.model_slots.specs.Resolved.{both}
use Rattle.model_events.specs.Functions.{Candidate, defined}
use Rattle.acl_terms.specs.declared.definition.Definition.{Definition}
use Rattle.acl_terms.specs.Definitions.{seen_definition, seen_definitions, definition_reach, definitions_reach}
use Rattle.acl_terms.specs.Forms.{most}
use Rattle.acl_outputs.proofs.ListLemmas.{left_at}
use Rattle.acl_code.specs.declared.term.Term.{Term}
use Rattle.acl_code.proofs.TableLemmas.{most_push}
use Rattle.acl_check.specs.declared.member.Member.{Member}
use Rattle.acl_check.specs.Members.{FitsMember}
use Rattle.acl_translate.specs.declared.function_terms.FunctionTerms.{FunctionTerms}
use Rattle.acl_translate.specs.Functions.{function_trees, all_function_trees, AreFunctions, seen_function_terms}
use Rattle.acl_signatures.specs.Candidates.{seen_candidate, seen_candidates}
use Rattle.acl_cliques.specs.Entered.{terms_in, member_reach, AreDefined}

-- ---- as many terms as functions

joined_count : (o : Option (Tree × Tree)) (r : Option (List (Tree × Tree))) (xs : List (Tree × Tree)) (n : ℕ) → Some xs ≡ both (λ t ts. t ∷ ts) o r
    → ((ys : List (Tree × Tree)) → Some ys ≡ r → length ys ≡ n) → length xs ≡ suc n
joined_count None None xs n e f = absurd (cc)
joined_count None (Some ys) xs n e f = absurd (cc)
joined_count (Some t) None xs n e f = absurd (cc)
joined_count (Some t) (Some ys) xs n e f = let is : xs ≡ t ∷ ys = cc in ap length is ∙ ap suc (f ys refl)

trees_count : (w : World) (ms : List rounds.Member) (xs : List (Tree × Tree)) → Some xs ≡ all_function_trees w ms → length xs ≡ length ms
trees_count w [] xs e = let is : xs ≡ [] = cc in ap length is
trees_count w (m ∷ ms) xs e = joined_count (function_trees w m) (all_function_trees w ms) xs (length ms) e (λ ys q. trees_count w ms ys q)

pub terms_count : (h : Objects) (w : World) (ts : List Term) (fs : List FunctionTerms) (ms : List rounds.Member) → AreFunctions h ts fs (all_function_trees w ms) → length fs ≡ length ms
terms_count h w ts fs ms a = sym (length-map fs (seen_function_terms h ts)) ∙ trees_count w ms (map (seen_function_terms h ts) fs) a.are

-- ---- one more

-- definitions so far, the functions that are left, and from which place on
pub record SoFar (h : Objects) (known : Known) (ms : List Member) (bs : List Bool) (fs : List FunctionTerms) (n : ℕ) (left : List Member) (ds : List Definition) : Type 0 where
  pub count : n + length left ≡ length ms
  pub seen : map (defined known) (seen_candidates h ms bs) ≡ seen_definitions h ds ++ map (defined known) (seen_candidates h left (drop n bs))
  pub terms : map Some fs ≡ map terms_in ds ++ map Some (drop n fs)
  pub done : definitions_reach ds ≤ most (map member_reach ms)
  pub rest : most (map member_reach left) ≤ most (map member_reach ms)

module _ (h : Objects) (known : Known) (ms : List Member) (bs : List Bool) (fs : List FunctionTerms) where
  pub so_far_start : SoFar h known ms bs fs 0 ms []
  so_far_start = record { count = omega arith; seen = refl; terms = refl; done = omega arith; rest = omega arith }

  pub so_far_next : (n : ℕ) (left others : List Member) (ds new : List Definition) (m : Member) (d : Definition) (b : Bool) (t : FunctionTerms)
      → SoFar h known ms bs fs n left ds → left ≡ m ∷ others → length bs ≡ length ms → length fs ≡ length ms
      → seen_definition h d ≡ defined known (seen_candidate h m (get_or bs n b)) → terms_in d ≡ Some (get_or fs n t) → definition_reach d ≡ member_reach m → new ≡ ds ++ d ∷ []
      → SoFar h known ms bs fs (n + 1) others new
  so_far_next n left others ds new m d b t s e lb lf se te re ne =
      let long : length left ≡ suc (length others) = ap length e in
      let within : n < length ms = omega (arith, long, s.count) in
      let in_bs : n < length bs = omega (arith, within, lb) in
      let in_fs : n < length fs = omega (arith, within, lf) in
      let reach : most (map member_reach (m ∷ others)) ≤ most (map member_reach ms) = subst (λ xs. most (map member_reach xs) ≤ most (map member_reach ms)) e s.rest in
      let pushed : definitions_reach new ≡ max (definitions_reach ds) (definition_reach d) = ap definitions_reach ne ∙ most_push definition_reach ds d in
      let left_seen : map (defined known) (seen_candidates h left (drop n bs)) ≡ seen_definition h d ∷ map (defined known) (seen_candidates h others (drop (n + 1) bs)) =
      ap (λ xs. map (defined known) (seen_candidates h xs (drop n bs))) e
      ∙ (ap (λ ys. map (defined known) (seen_candidates h (m ∷ others) ys)) (left_at bs n b in_bs)
      ∙ ap (λ x. x ∷ map (defined known) (seen_candidates h others (drop (n + 1) bs))) (sym se)) in
      let left_terms : map Some (drop n fs) ≡ terms_in d ∷ map Some (drop (n + 1) fs) =
      ap (λ xs. map Some xs) (left_at fs n t in_fs) ∙ ap (λ x. x ∷ map Some (drop (n + 1) fs)) (sym te) in
      record {
        count = omega (arith, long, s.count);
        seen = s.seen ∙ (ap (λ xs. seen_definitions h ds ++ xs) left_seen
            ∙ (sym (append_assoc (seen_definitions h ds) (seen_definition h d ∷ []) (map (defined known) (seen_candidates h others (drop (n + 1) bs))))
            ∙ ap (λ xs. xs ++ map (defined known) (seen_candidates h others (drop (n + 1) bs))) (sym (map-append (seen_definition h) ds (d ∷ [])) ∙ ap (λ xs. seen_definitions h xs) (sym ne))));
        terms = s.terms ∙ (ap (λ xs. map terms_in ds ++ xs) left_terms
            ∙ (sym (append_assoc (map terms_in ds) (terms_in d ∷ []) (map Some (drop (n + 1) fs)))
            ∙ ap (λ xs. xs ++ map Some (drop (n + 1) fs)) (sym (map-append terms_in ds (d ∷ [])) ∙ ap (λ xs. map terms_in xs) (sym ne))));
        done = omega (arith, pushed, s.done, reach, re);
        rest = omega (arith, reach);
      }

  pub so_far_end : (n : ℕ) (left : List Member) (ds : List Definition) → SoFar h known ms bs fs n left ds → length left ≡ 0 → length fs ≡ length ms
      → AreDefined h known (seen_candidates h ms bs) ms fs ds
  so_far_end n [] ds s z lf =
      let past : length fs ≤ n = omega (arith, lf, s.count, z) in
      record {
        seen = sym (s.seen ∙ append-nil (seen_definitions h ds));
        terms = sym (s.terms ∙ (ap (λ xs. map terms_in ds ++ map Some xs) (drop_of_length-le fs past) ∙ append-nil (map terms_in ds)));
        reach = s.done;
      }
  so_far_end n (m ∷ left) ds s z lf = absurd (omega (arith, z))

-- ---- words

most_within : (h : Objects) (ms : List Member) → All (FitsMember h) ms → most (map member_reach ms) ≤ length h
most_within h [] a = omega arith
most_within h (m ∷ ms) a =
    let first : FitsMember h m = a zero m (omega arith) in
    let rest : most (map member_reach ms) ≤ length h = most_within h ms (λ k d l. a (suc k) d (omega (arith, l))) in
    omega (arith, first.guard.lies, first.body.lies, rest)

pub defined_lie : (h : Objects) (known : Known) (cs : List Candidate) (ms : List Member) (fs : List FunctionTerms) (ds : List Definition) → AreDefined h known cs ms fs ds → All (FitsMember h) ms
    → definitions_reach ds ≤ length h
defined_lie h known cs ms fs ds d a = let m = most_within h ms a in omega (arith, d.reach, m)
