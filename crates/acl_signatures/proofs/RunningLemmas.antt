-- Steps of the loops over functions of which some run, and the rounds.
use Rattle.std.specs.Prelude.{◌≡◌, ℕ, zero, suc, ◌+◌, ◌-◌, ◌<◌, ◌≤◌, List, [], ◌∷◌, ◌++◌, length, drop, map, Bool, true, false, nat_eq, unwrap_or, Option, Some, None, option_to_list, refl, if◌then◌else◌}
use Rattle.std.specs.List.{filter_map, cons_option, zip}
use Rattle.std.specs.Map.{lookup}
use Rattle.std.proofs.Common.{sym, ap, ◌∙◌, get_or, append_assoc, arith}
use Rattle.std.proofs.Math.ListN.{drop_of_length-le}
use Rattle.std.proofs.lemmas.List.{append-nil}
use Rattle.acl_heap.specs.Objects.{Objects}
use Rattle.model_terms.specs.Worlds as worlds
use Rattle.model_terms.specs.Worlds.{World}
use Rattle.model_terms.specs.Outputs.{Known}
use Rattle.model_terms.specs.Rounds as models
use Rattle.model_terms.specs.Rounds.{round, rounds, known_at_last}
use Rattle.model_events.specs.Functions.{Candidate, running}
use Rattle.acl_outputs.proofs.ListLemmas.{left_at}
use Rattle.acl_check.specs.declared.member.Member.{Member}
use Rattle.acl_check.specs.Members.{seen_member, member_signature}
use Rattle.acl_signatures.specs.Candidates.{seen_candidate, seen_candidates, of_running, named_signature, running_signatures}

-- ---- functions from a place on

module _ (h : Objects) where
  pub candidates_at : (ms : List Member) (bs : List Bool) (i : ℕ) (m : Member) (b : Bool) → i < length ms → length bs ≡ length ms
      → seen_candidates h (drop i ms) (drop i bs) ≡ seen_candidate h (get_or ms i m) (get_or bs i b) ∷ seen_candidates h (drop (i + 1) ms) (drop (i + 1) bs)
  candidates_at ms bs i m b l e =
      let k : i < length bs = omega (arith, l, e) in
      rw (left_at ms i m l, left_at bs i b k) refl

  pub candidates_end : (ms : List Member) (bs : List Bool) (i : ℕ) → length ms ≤ i → seen_candidates h (drop i ms) (drop i bs) ≡ []
  candidates_end ms bs i l = ap (λ (xs : List Member). seen_candidates h xs (drop i bs)) (drop_of_length-le ms l)

-- ---- what is said of each

module _ {Y : Type 0} (h : Objects) (g : Candidate → Y) where
  pub each_next : (all done next : List Y) (one : Y) (ms : List Member) (bs : List Bool) (i : ℕ) (m : Member) (b d : Bool)
      → all ≡ done ++ map g (seen_candidates h (drop i ms) (drop i bs)) → i < length ms → length bs ≡ length ms → m ≡ get_or ms i m → b ≡ get_or bs i d
      → one ≡ g (seen_candidate h m b) → next ≡ done ++ one ∷ [] → all ≡ next ++ map g (seen_candidates h (drop (i + 1) ms) (drop (i + 1) bs))
  each_next all done next one ms bs i m b d s l e am ab o n =
      let rest = map g (seen_candidates h (drop (i + 1) ms) (drop (i + 1) bs)) in
      s ∙ (ap (λ (cs : List Candidate). done ++ map g cs) (candidates_at h ms bs i m d l e)
      ∙ (sym (append_assoc done (g (seen_candidate h (get_or ms i m) (get_or bs i d)) ∷ []) rest)
      ∙ (ap (λ (x : Member). (done ++ g (seen_candidate h x (get_or bs i d)) ∷ []) ++ rest) (sym am)
      ∙ (ap (λ (x : Bool). (done ++ g (seen_candidate h m x) ∷ []) ++ rest) (sym ab)
      ∙ (ap (λ (x : Y). (done ++ x ∷ []) ++ rest) (sym o) ∙ ap (λ (x : List Y). x ++ rest) (sym n))))))

  pub each_end : (all done : List Y) (ms : List Member) (bs : List Bool) (i : ℕ) → all ≡ done ++ map g (seen_candidates h (drop i ms) (drop i bs)) → length ms ≤ i → done ≡ all
  each_end all done ms bs i s l = sym (s ∙ (ap (λ (cs : List Candidate). done ++ map g cs) (candidates_end h ms bs i l) ∙ append-nil done))

-- ---- what is said of those that run

put_option : {Y : Type 0} (v : Option Y) (rest : List Y) → cons_option v rest ≡ option_to_list v ++ rest
put_option None rest = refl
put_option (Some x) rest = refl

module _ {Y : Type 0} (f : models.Member → Option Y) where
  one_more : (m : models.Member) (b : Bool) (cs : List Candidate)
      → filter_map f (running (record { member = m; executable = b } ∷ cs)) ≡ option_to_list (of_running f (record { member = m; executable = b })) ++ filter_map f (running cs)
  one_more m true cs = put_option (f m) (filter_map f (running cs))
  one_more m false cs = refl

module _ {Y : Type 0} (h : Objects) (f : models.Member → Option Y) where
  pub running_next : (all done next : List Y) (one : Option Y) (ms : List Member) (bs : List Bool) (i : ℕ) (m : Member) (b d : Bool)
      → all ≡ done ++ filter_map f (running (seen_candidates h (drop i ms) (drop i bs))) → i < length ms → length bs ≡ length ms → m ≡ get_or ms i m → b ≡ get_or bs i d
      → one ≡ of_running f (seen_candidate h m b) → next ≡ done ++ option_to_list one → all ≡ next ++ filter_map f (running (seen_candidates h (drop (i + 1) ms) (drop (i + 1) bs)))
  running_next all done next one ms bs i m b d s l e am ab o n =
      let rest = filter_map f (running (seen_candidates h (drop (i + 1) ms) (drop (i + 1) bs))) in
      s ∙ (ap (λ (cs : List Candidate). done ++ filter_map f (running cs)) (candidates_at h ms bs i m d l e)
      ∙ (ap (λ (ys : List Y). done ++ ys) (one_more f (seen_member h (get_or ms i m)) (get_or bs i d) (seen_candidates h (drop (i + 1) ms) (drop (i + 1) bs)))
      ∙ (sym (append_assoc done (option_to_list (of_running f (seen_candidate h (get_or ms i m) (get_or bs i d)))) rest)
      ∙ (ap (λ (x : Member). (done ++ option_to_list (of_running f (seen_candidate h x (get_or bs i d)))) ++ rest) (sym am)
      ∙ (ap (λ (x : Bool). (done ++ option_to_list (of_running f (seen_candidate h m x))) ++ rest) (sym ab)
      ∙ (ap (λ (x : Option Y). (done ++ option_to_list x) ++ rest) (sym o) ∙ ap (λ (x : List Y). x ++ rest) (sym n)))))))

  pub running_end : (all done : List Y) (ms : List Member) (bs : List Bool) (i : ℕ) → all ≡ done ++ filter_map f (running (seen_candidates h (drop i ms) (drop i bs))) → length ms ≤ i → done ≡ all
  running_end all done ms bs i s l = sym (s ∙ (ap (λ (cs : List Candidate). done ++ filter_map f (running cs)) (candidates_end h ms bs i l) ∙ append-nil done))

-- ---- rounds

-- how many run
abbrev pub count_of : List Bool → ℕ
count_of [] = 0
count_of (true ∷ bs) = suc (count_of bs)
count_of (false ∷ bs) = count_of bs

pub count_running : (h : Objects) (ms : List Member) (bs : List Bool) → length bs ≡ length ms → length (running (seen_candidates h ms bs)) ≡ count_of bs
count_running h [] [] e = refl
count_running h [] (b ∷ bs) e = absurd (omega (arith, e))
count_running h (m ∷ ms) [] e = absurd (omega (arith, e))
count_running h (m ∷ ms) (true ∷ bs) e = ap suc (count_running h ms bs (omega (arith, e)))
count_running h (m ∷ ms) (false ∷ bs) e = count_running h ms bs (omega (arith, e))

one_round : (w : World) (ms : List models.Member) (b : Bool) (bs : List Bool) (known : Known)
    → rounds w ms (count_of (b ∷ bs)) known ≡ rounds w ms (count_of bs) (if b then round w ms known else known)
one_round w ms true bs known = refl
one_round w ms false bs known = refl

pub rounds_next : (w : World) (ms : List models.Member) (bs : List Bool) (i : ℕ) (b d : Bool) (all known next : Known) → all ≡ rounds w ms (count_of (drop i bs)) known → i < length bs → b ≡ get_or bs i d
    → next ≡ (if b then round w ms known else known) → all ≡ rounds w ms (count_of (drop (i + 1) bs)) next
rounds_next w ms bs i b d all known next s l ab n =
    s ∙ (ap (λ (xs : List Bool). rounds w ms (count_of xs) known) (left_at bs i d l)
    ∙ (one_round w ms (get_or bs i d) (drop (i + 1) bs) known
    ∙ (ap (λ (x : Bool). rounds w ms (count_of (drop (i + 1) bs)) (if x then round w ms known else known)) (sym ab) ∙ ap (λ (ks : Known). rounds w ms (count_of (drop (i + 1) bs)) ks) (sym n))))

pub rounds_end : (w : World) (ms : List models.Member) (bs : List Bool) (i : ℕ) (known : Known) → length bs ≤ i → rounds w ms (count_of (drop i bs)) known ≡ known
rounds_end w ms bs i known l = ap (λ (xs : List Bool). rounds w ms (count_of xs) known) (drop_of_length-le bs l)

pub rounds_start : (w : World) (h : Objects) (ms : List Member) (bs : List Bool) → length bs ≡ length ms
    → known_at_last w (running (seen_candidates h ms bs)) ≡ rounds w (running (seen_candidates h ms bs)) (count_of bs) []
rounds_start w h ms bs e = ap (λ (n : ℕ). rounds w (running (seen_candidates h ms bs)) n []) (count_running h ms bs e)

-- ---- signatures with their names

pub named_all : (w : World) (known : Known) (ms : List models.Member)
    → filter_map (named_signature w known) ms ≡ zip (map (λ (m : models.Member). m.name) ms) (map (member_signature w known) ms)
named_all w known [] = refl
named_all w known (m ∷ ms) = ap (λ (ks : Known). (m.name, member_signature w known m) ∷ ks) (named_all w known ms)

pub signatures_are : (w : World) (found known : Known) (cs : List Candidate) → found ≡ filter_map (named_signature w known) (running cs) → known ≡ known_at_last w (running cs)
    → found ≡ running_signatures w cs
signatures_are w found known cs f k =
    f ∙ (named_all w known (running cs)
    ∙ ap (λ (ks : Known). zip (map (λ (m : models.Member). m.name) (running cs)) (map (member_signature w ks) (running cs))) k)
