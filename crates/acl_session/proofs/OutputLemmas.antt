-- An output, as far as it was written.
use Rattle.std.specs.Prelude.{◌≡◌, ℕ, ◌+◌, ◌≤◌, ◌<◌, List, [], ◌∷◌, ◌++◌, length, Bool, true, false, Option, Some, None, if◌then◌else◌, nat_le, codes, refl}
use Rattle.std.proofs.Common.{sym, ap, ◌∙◌, subst, arith}
use Rattle.std.proofs.lemmas.List.{append_assoc, append-nil, length-append}
use Rattle.std.proofs.lemmas.Bool.Decides.{nat_tests}
use Rattle.acl_base.specs.declared.status.Status.{Status}
use Rattle.acl_base.specs.declared.status.Status.TheVariants.{Done, Errors, Words, Text, ReadFault, WriteFault, Memory}
use Rattle.acl_edge.specs.Outside.{Takes, TakesPart}
use Rattle.acl_edge.proofs.EndLemmas.{Takes-nothing, Takes-then}
use Rattle.model_output_so_far.specs.Sessions as sessions
use Rattle.model_output_so_far.specs.Output.{Output, Totals, output, before, line, answers, no_totals, summary_text, fault_text, faulty, one_if, most_bytes}
use Rattle.acl_answers.specs.declared.Answer.{Answer}
use Rattle.acl_session.specs.Runs.{Tells, IsInput, Ends, IsRun, Writing, Finishes, IsPlain, counted_by}

-- ---- parts

pub before_both : (x y : List ℕ) (o : Output) → before (x ++ y) o ≡ before x (before y o)
before_both x y o = ap (λ (b : List ℕ). record o { bytes = b }) (append_assoc x y o.bytes)

-- a first part of a second piece, behind the whole of the first
pub part_behind : (a b c : Option (List ℕ)) (x y z : List ℕ) → Takes a b x → TakesPart b c y → TakesPart a c (x ++ (y ++ z))
part_behind a b c x y z t p = record {
  part = x ++ p.part;
  rest = p.rest ++ z;
  split = ap (λ (l : List ℕ). x ++ (l ++ z)) p.split ∙ (ap (λ (l : List ℕ). x ++ l) (append_assoc p.part p.rest z) ∙ sym (append_assoc x p.part (p.rest ++ z)));
  takes = Takes-then a b c x p.part t p.takes;
}

pub part_whole : (a b : Option (List ℕ)) (x z : List ℕ) → Takes a b x → TakesPart a b (x ++ z)
part_whole a b x z t = record { part = x; rest = z; split = refl; takes = t }

pub part_first : (a b : Option (List ℕ)) (x z : List ℕ) → TakesPart a b x → TakesPart a b (x ++ z)
part_first a b x z p = record { part = p.part; rest = p.rest ++ z; split = ap (λ (l : List ℕ). l ++ z) p.split ∙ append_assoc p.part p.rest z; takes = p.takes }

-- ---- a book's commands

pub writing_start : (a : Option (List ℕ)) (left all : Output) → left ≡ all → Writing a a left all
writing_start a left all e = record { part = []; takes = Takes-nothing a; whole = e }

-- what is left, seen otherwise
pub writing_as : (a b : Option (List ℕ)) (left same all : Output) → Writing a b left all → left ≡ same → Writing a b same all
writing_as a b left same all w e = subst (λ (o : Output). Writing a b o all) e w

-- a line more was written of what is left
pub writing_line : (a b c : Option (List ℕ)) (text : List ℕ) (left rest all : Output) → Writing a b left all → left ≡ before (line text) rest → Takes b c (line text) → Writing a c rest all
writing_line a b c text left rest all w e k = record {
  part = w.part ++ line text;
  takes = Takes-then a b c w.part (line text) w.takes k;
  whole = before_both w.part (line text) rest ∙ (ap (before w.part) (sym e) ∙ w.whole);
}

-- a part of what is left is a part of all
pub writing_cut : (a b c : Option (List ℕ)) (text : List ℕ) (left rest all : Output) → Writing a b left all → left ≡ before (line text) rest → TakesPart b c (line text) → TakesPart a c all.bytes
writing_cut a b c text left rest all w e p =
    let P : Output → Type 0 = λ (r : Output). TakesPart a c r.bytes in
    subst P (ap (before w.part) (sym e) ∙ w.whole) (part_behind a b c w.part (line text) rest.bytes w.takes p)

pub writing_so_far : (a b : Option (List ℕ)) (left all : Output) → Writing a b left all → TakesPart a b all.bytes
writing_so_far a b left all w =
    let P : Output → Type 0 = λ (r : Output). TakesPart a b r.bytes in
    subst P w.whole (part_whole a b w.part left.bytes w.takes)

-- what was left was written whole
pub writing_done : (a b c : Option (List ℕ)) (left all : Output) (status : Status) → Writing a b left all → Finishes b c left status → Finishes a c all status
writing_done a b c left all status w f =
    let P : Output → Type 0 = λ (r : Output). Finishes a c r status in
    subst P w.whole (Takes-then a b c w.part left.bytes w.takes f.0, f.1)

-- a part of it was written
pub writing_last_cut : (a b c : Option (List ℕ)) (left all : Output) → Writing a b left all → TakesPart b c left.bytes → TakesPart a c all.bytes
writing_last_cut a b c left all w p =
    let P : Output → Type 0 = λ (r : Output). TakesPart a c r.bytes in
    let Q : List ℕ → Type 0 = λ (x : List ℕ). TakesPart a c (w.part ++ x) in
    subst P w.whole (subst Q (append-nil left.bytes) (part_behind a b c w.part left.bytes [] w.takes p))

-- ---- a text fault

pub fault_cut : (a b : Option (List ℕ)) (t : Totals) (name : List ℕ) (at : ℕ) (text : List ℕ) → text ≡ fault_text name at → TakesPart a b (line text) → TakesPart a b (faulty t name at).bytes
fault_cut a b t name at text e p =
    let Q : List ℕ → Type 0 = λ (x : List ℕ). TakesPart a b (line x) in
    part_first a b (line (fault_text name at)) (line (summary_text t)) (subst Q e p)

pub fault_between : (a b : Option (List ℕ)) (t : Totals) (name : List ℕ) (at : ℕ) (text : List ℕ) → text ≡ fault_text name at → Takes a b (line text) → TakesPart a b (faulty t name at).bytes
fault_between a b t name at text e k =
    let Q : List ℕ → Type 0 = λ (x : List ℕ). Takes a b (line x) in
    part_whole a b (line (fault_text name at)) (line (summary_text t)) (subst Q e k)

pub fault_last_cut : (a b c : Option (List ℕ)) (t : Totals) (name : List ℕ) (at : ℕ) (text last : List ℕ) → text ≡ fault_text name at → last ≡ summary_text t → Takes a b (line text) → TakesPart b c (line last)
    → TakesPart a c (faulty t name at).bytes
fault_last_cut a b c t name at text last e f k p =
    let Q : List ℕ → Type 0 = λ (x : List ℕ). TakesPart b c (line x) in
    let S : List ℕ → Type 0 = λ (x : List ℕ). Takes a b (line x) in
    let R : List ℕ → Type 0 = λ (x : List ℕ). TakesPart a c (line (fault_text name at) ++ x) in
    subst R (append-nil (line (summary_text t))) (part_behind a b c (line (fault_text name at)) (line (summary_text t)) [] (subst S e k) (subst Q f p))

pub fault_done : (a b c : Option (List ℕ)) (t : Totals) (name : List ℕ) (at : ℕ) (text last : List ℕ) → text ≡ fault_text name at → last ≡ summary_text t → Takes a b (line text) → Takes b c (line last)
    → Takes a c (faulty t name at).bytes
fault_done a b c t name at text last e f k l =
    let Q : List ℕ → Type 0 = λ (x : List ℕ). Takes b c (line x) in
    let S : List ℕ → Type 0 = λ (x : List ℕ). Takes a b (line x) in
    Takes-then a b c (line (fault_text name at)) (line (summary_text t)) (subst S e k) (subst Q f l)

-- ---- whole inputs

pub output_long : (bytes : List ℕ) → most_bytes < length bytes → output bytes ≡ faulty no_totals (codes "NotYet") most_bytes
unfolding output
output_long bytes l =
    ap (λ t. if t then answers (length bytes + 1) sessions.first_session no_totals 0 bytes else faulty no_totals (codes "NotYet") most_bytes) (not_le (length bytes) l) where
      not_le : (n : ℕ) → most_bytes < n → nat_le n most_bytes ≡ false
      not_le n h = grind (arith, nat_tests)

pub output_short : (bytes : List ℕ) → length bytes ≤ most_bytes → output bytes ≡ answers (length bytes + 1) sessions.first_session no_totals 0 bytes
unfolding output
output_short bytes l =
    ap (λ t. if t then answers (length bytes + 1) sessions.first_session no_totals 0 bytes else faulty no_totals (codes "NotYet") most_bytes) (le (length bytes) l) where
      le : (n : ℕ) → n ≤ most_bytes → nat_le n most_bytes ≡ true
      le n h = grind (arith, nat_tests)

record Told (left : Option (List ℕ)) (bytes : List ℕ) : Type 0 where
  input : List ℕ
  told : Tells left input
  same : output input ≡ output bytes

told_input : (left : Option (List ℕ)) (bytes : List ℕ) → IsInput left bytes → Told left bytes
told_input None bytes h = record { input = bytes; told = tt; same = refl }
told_input (Some left) bytes h = go (nat_le (length bytes) most_bytes) refl where
  at_most : (n : ℕ) → nat_le n most_bytes ≡ true → n ≤ most_bytes
  at_most n e = grind (arith, nat_tests)

  above : (n : ℕ) → nat_le n most_bytes ≡ false → most_bytes < n
  above n e = grind (arith, nat_tests)

  empty : (l : List ℕ) → length l ≡ 0 → l ≡ []
  empty [] e = refl
  empty (x ∷ xs) e = absurd (omega arith)

  go : (t : Bool) → nat_le (length bytes) most_bytes ≡ t → Told (Some left) bytes
  go true e =
      let none = empty h.rest (h.long (at_most (length bytes) e)) in
      record { input = left; told = refl; same = ap output (h.whole ∙ (ap (λ (l : List ℕ). bytes ++ l) none ∙ append-nil bytes)) }
  go false e =
      let long = above (length bytes) e in
      let longer : most_bytes < length left = omega (arith, ap length h.whole, length-append bytes h.rest, long) in
      record { input = left; told = refl; same = output_long left longer ∙ sym (output_long bytes long) }

ends_plain : (old new : Option (List ℕ)) (out : Output) (status : Status) → Finishes old new out status → IsPlain status → Ends old new out status
ends_plain old new out Done f p = (f.0, sym f.1)
ends_plain old new out Errors f p = (f.0, sym f.1)
ends_plain old new out Words f p = absurd p
ends_plain old new out Text f p = (f.0, sym f.1)
ends_plain old new out ReadFault f p = absurd p
ends_plain old new out WriteFault f p = absurd p
ends_plain old new out Memory f p = absurd p

pub run_plain : (left old new : Option (List ℕ)) (bytes : List ℕ) (status : Status) → IsInput left bytes → Finishes old new (output bytes) status → IsPlain status → IsRun left old new status
run_plain left old new bytes status i f p =
    let t = told_input left bytes i in
    let P : Output → Type 0 = λ o. Ends old new o status in
    record { input = t.input; told = t.told; ends = subst P (sym t.same) (ends_plain old new (output bytes) status f p) }

pub run_cut : (left old new : Option (List ℕ)) (bytes : List ℕ) → IsInput left bytes → TakesPart old new (output bytes).bytes → IsRun left old new WriteFault × IsRun left old new Memory
run_cut left old new bytes i f =
    let t = told_input left bytes i in
    let P : Output → Type 0 = λ o. TakesPart old new o.bytes in
    let g = subst P (sym t.same) f in
    (record { input = t.input; told = t.told; ends = g }, record { input = t.input; told = t.told; ends = g })

-- nothing was written, whatever the input
pub run_nothing : (left old : Option (List ℕ)) → IsRun left old old Words × IsRun left old old ReadFault × IsRun left old old Memory
run_nothing None old = (record { input = []; told = tt; ends = refl }, record { input = []; told = tt; ends = refl }, record { input = []; told = tt; ends = none old (output []).bytes }) where
  none : (o : Option (List ℕ)) (all : List ℕ) → TakesPart o o all
  none o all = record { part = []; rest = all; split = refl; takes = Takes-nothing o }
run_nothing (Some left) old = (record { input = left; told = refl; ends = refl }, record { input = left; told = refl; ends = refl }, record { input = left; told = refl; ends = none old (output left).bytes }) where
  none : (o : Option (List ℕ)) (all : List ℕ) → TakesPart o o all
  none o all = record { part = []; rest = all; split = refl; takes = Takes-nothing o }

pub plain_no_fault : (status : Status) → IsPlain status → (status ≡ Words → ⊥) × (status ≡ ReadFault → ⊥) × (status ≡ WriteFault → ⊥)
plain_no_fault Done p = (λ e. cc, λ e. cc, λ e. cc)
plain_no_fault Errors p = (λ e. cc, λ e. cc, λ e. cc)
plain_no_fault Words p = absurd p
plain_no_fault Text p = (λ e. cc, λ e. cc, λ e. cc)
plain_no_fault ReadFault p = absurd p
plain_no_fault WriteFault p = absurd p
plain_no_fault Memory p = absurd p

-- the counts after a command
pub record Counts (t t' : Totals) (answer : Answer) : Type 0 where
  pub commands : t'.commands ≡ t.commands + 1
  pub calls : t'.calls ≡ t.calls + answer.calls
  pub errors : t'.errors ≤ t.errors + 1

pub counts : (t t' : Totals) (answer : Answer) → t' ≡ counted_by t answer → Counts t t' answer
counts t t' answer e =
    record {
      commands = ap (λ (u : Totals). u.commands) e;
      calls = ap (λ (u : Totals). u.calls) e;
      errors = let f = ap (λ (u : Totals). u.errors) e in let g = most answer.is_error in omega (arith, f, g);
    } where
      most : (b : Bool) → one_if b ≤ 1
      most true = omega arith
      most false = omega arith
