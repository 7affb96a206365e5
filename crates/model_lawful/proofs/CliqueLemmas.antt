-- Functions that the rules accept were admitted.
use Rattle.std.proofs.Common.{◌≡◌, ℕ, ◌+◌, List, [], ◌∷◌, map, Bool, true, false, Option, Some, None, refl, sym, ap, ◌∙◌, subst}
use Rattle.std.specs.Prelude.{if◌then◌else◌}
use Rattle.std.specs.Option.{option_or, option_map_or}
use Rattle.std.specs.List.{AllByRecursion}
use Rattle.model_terms.specs.declared.rule.Mode.TheVariants.{Executable}
use Rattle.model_terms.specs.Cores.{Core, Place}
use Rattle.model_terms.specs.Worlds.{World, Function, Out, Ordinary, Stobj, Scope, Signature}
use Rattle.model_terms.specs.Classes.{has, repeats, is_stobj_name}
use Rattle.model_terms.specs.Outputs.{signature_of}
use Rattle.model_terms.specs.Rounds.{Member, formal_kind, formal_kinds, formal_entry, formal_scope}
use Rattle.model_terms.specs.Sites.{one_ordinary}
use Rattle.model_terms.specs.Faults.{Fault, first_fault, at, head_fault, function_fault, logic_fault, outs_of, member_fault, clique_fault}
use Rattle.model_eval_laws.specs.Agreement.{IsClosedWorld}
use Rattle.model_accepted.specs.Threaded.{IsFormed, AreFormals, formal_entries}
use Rattle.model_lawful.specs.Growth.{Becomes, HasLawfulStobjs}
use Rattle.model_lawful.specs.Lawful.{WasChecked, WasAdmitted}
use Rattle.model_lawful.specs.Cliques.{IsMadeOf, CliquesAreAdmitted}

neither_fault : (a b : Option Fault) → option_or a b ≡ None → (a ≡ None) × (b ≡ None)
neither_fault None b e = (refl, e)
neither_fault (Some f) b e = cc

none_at : (outer : Place) (a : Option Fault) → at outer a ≡ None → a ≡ None
none_at outer None e = refl
none_at outer (Some f) e = cc

-- formals, each ordinary or the stobj of its name
kinds_are : (c : World) (stobjs xs : List ℕ) → AreFormals xs (map (formal_kind c stobjs) xs)
kinds_are c stobjs [] = tt
kinds_are c stobjs (x ∷ xs) = go (has stobjs x) (is_stobj_name c x) (kinds_are c stobjs xs)
  where
    go : (a b : Bool) → AreFormals xs (map (formal_kind c stobjs) xs) → AreFormals (x ∷ xs) ((if a then (if b then Stobj x else Ordinary) else Ordinary) ∷ map (formal_kind c stobjs) xs)
    go true true h = (refl, h)
    go true false h = h
    go false b h = h

entries_are : (c : World) (stobjs xs : List ℕ) → map (formal_entry c stobjs) xs ≡ formal_entries xs (map (formal_kind c stobjs) xs)
entries_are c stobjs [] = refl
entries_are c stobjs (x ∷ xs) = ap (λ (es : Scope). formal_entry c stobjs x ∷ es) (entries_are c stobjs xs)

module _ (c w : World) (closed : IsClosedWorld c) (lawful : HasLawfulStobjs c) (b : Becomes c w) where
  checked : (m : Member) (form : Core) (expected : List Out) → first_fault c Executable (formal_scope c m) form expected ≡ None → IsFormed c form → WasChecked w m.formals (formal_kinds c m) form expected
  checked m form expected e formed = record {
    world = c;
    closed = closed;
    lawful = lawful;
    becomes = b;
    accepted = ap (λ (scope : Scope). first_fault c Executable scope form expected) (sym (entries_are c m.stobjs m.formals)) ∙ e;
    formed = formed;
  }

  member_admitted : (n : ℕ) (m : Member) → member_fault c n m ≡ None → (f : Function) → IsMadeOf c m f → WasAdmitted w f
  member_admitted n m e f is =
      let faults : function_fault c n m (outs_of c m.name) ≡ None = ap (λ (r : Bool). if r then function_fault c n m (outs_of c m.name) else logic_fault c n m) (sym is.runs_there) ∙ e in
      let parts = neither_fault (head_fault c n m) _ faults in
      let both = neither_fault (at (n ∷ 0 ∷ []) (first_fault c Executable (formal_scope c m) m.guard one_ordinary)) (at (n ∷ 1 ∷ []) (first_fault c Executable (formal_scope c m) m.body (outs_of c m.name))) parts.1 in
      let outs : outs_of c m.name ≡ f.signature.outs
      = ap (λ (s : Option Signature). option_map_or (λ (s : Signature). s.outs) s one_ordinary) (ap (signature_of c []) (sym is.name) ∙ is.signed) in
      record {
        formals = subst (λ (xs : List ℕ). AreFormals xs f.signature.ins) (sym is.formals) (subst (AreFormals m.formals) (sym is.ins) (kinds_are c m.stobjs m.formals));
        distinct = ap (λ (xs : List ℕ). repeats xs) is.formals ∙ is.distinct;
        guard = of_function one_ordinary m.guard f.guard is.guard (checked m m.guard one_ordinary (none_at (n ∷ 0 ∷ []) _ both.0) is.guard_formed);
        body = of_function f.signature.outs m.body f.body is.body
            (checked m m.body f.signature.outs (ap (first_fault c Executable (formal_scope c m) m.body) (sym outs) ∙ none_at (n ∷ 1 ∷ []) _ both.1) is.body_formed);
      }
    where
      of_function : (expected : List Out) (form other : Core) → other ≡ form → WasChecked w m.formals (formal_kinds c m) form expected → WasChecked w f.formals f.signature.ins other expected
      of_function expected form other g h =
          subst (λ (xs : List ℕ). WasChecked w xs f.signature.ins other expected) (sym is.formals)
          (subst (λ (ins : List Out). WasChecked w m.formals ins other expected) (sym is.ins) (subst (λ (q : Core). WasChecked w m.formals (formal_kinds c m) q expected) (sym g) h))

  clique_admitted : (n : ℕ) (ms : List Member) → clique_fault c n ms ≡ None → AllByRecursion (λ m. (f : Function) → IsMadeOf c m f → WasAdmitted w f) ms
  clique_admitted n [] e = tt
  clique_admitted n (m ∷ ms) e =
      let parts : (member_fault c n m ≡ None) × (clique_fault c (n + 1) ms ≡ None) = neither_fault (member_fault c n m) (clique_fault c (n + 1) ms) e in
      (member_admitted n m parts.0, clique_admitted (n + 1) ms parts.1)

pub cliques_are_admitted : CliquesAreAdmitted
cliques_are_admitted = record { admitted = clique_admitted }
