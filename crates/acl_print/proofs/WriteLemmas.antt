-- A text of which a first part was taken, and what follows it.
use Rattle.std.specs.Prelude.{◌≡◌, ℕ, List, [], ◌++◌, Option}
use Rattle.std.proofs.Common.{sym, ap, ◌∙◌, subst}
use Rattle.std.proofs.lemmas.List.{append_assoc, append-nil}
use Rattle.acl_edge.specs.Outside.{Takes, TakesPart}
use Rattle.acl_edge.proofs.EndLemmas.{Takes-nothing, Takes-then}
use Rattle.acl_print.specs.Writing.{Follows}

pub Follows-start : (a : Option (List ℕ)) (text rest : List ℕ) → rest ≡ text → Follows a a text rest
Follows-start a text rest e = record { part = []; split = e; takes = Takes-nothing a }

pub Follows-flushed : (a b : Option (List ℕ)) (out out' : List ℕ) → Takes a b out → out' ≡ [] → Follows a b out out'
Follows-flushed a b out out' t e = record { part = out; split = ap (λ (l : List ℕ). out ++ l) e ∙ append-nil out; takes = t }

-- what is left to write is the same, of which some more was taken
pub Follows-then : (a b c : Option (List ℕ)) (text out out' more rest : List ℕ) → Follows a b text more → out ++ rest ≡ more → Follows b c out out' → Follows a c text (out' ++ rest)
Follows-then a b c text out out' more rest f e g = record {
  part = f.part ++ g.part;
  split =
      append_assoc f.part g.part (out' ++ rest)
      ∙ (ap (λ (l : List ℕ). f.part ++ l) (sym (append_assoc g.part out' rest) ∙ (ap (λ (l : List ℕ). l ++ rest) g.split ∙ e))
      ∙ f.split);
  takes = Takes-then a b c f.part g.part f.takes g.takes;
}

pub Follows-part : (a b c : Option (List ℕ)) (text out more rest : List ℕ) → Follows a b text more → out ++ rest ≡ more → TakesPart b c out → TakesPart a c text
Follows-part a b c text out more rest f e t = record {
  part = f.part ++ t.part;
  rest = t.rest ++ rest;
  split =
      sym f.split
      ∙ (ap (λ (l : List ℕ). f.part ++ l) (sym e ∙ (ap (λ (l : List ℕ). l ++ rest) t.split ∙ append_assoc t.part t.rest rest))
      ∙ sym (append_assoc f.part t.part (t.rest ++ rest)));
  takes = Takes-then a b c f.part t.part f.takes t.takes;
}

pub Follows-stop : (a b : Option (List ℕ)) (text rest : List ℕ) → Follows a b text rest → TakesPart a b text
Follows-stop a b text rest f = record { part = f.part; rest = rest; split = sym f.split; takes = f.takes }

pub Follows-all : (a b c : Option (List ℕ)) (text out more : List ℕ) → Follows a b text more → more ≡ out → Takes b c out → Takes a c text
Follows-all a b c text out more f e t =
    let P : List ℕ → Type 0 = λ x. Takes a c x in
    subst P (ap (λ (l : List ℕ). f.part ++ l) (sym e) ∙ f.split) (Takes-then a b c f.part out f.takes t)
