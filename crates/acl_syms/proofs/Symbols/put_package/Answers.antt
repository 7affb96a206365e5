use Rattle.std.specs.Prelude.{◌≡◌, ◌∷◌, [], ◌++◌, List, ℕ, None, map, take, position}
use Rattle.std.proofs.Common.{arith, sym, ap, ◌∙◌, subst}
use Rattle.std.specs.Str.{bytes_eq}
use Rattle.std.proofs.lemmas.List.{take_at}
use Rattle.model_symbols.specs.Symbols.{QualifiedName, Table, package_number}
use Rattle.model_symbols.specs.Growth.{Extends}
use Rattle.model_symbols.specs.Tables.{with_package, symbols_at}
use Rattle.model_symbols.proofs.TableLemmas.{Extends-self, Extends-package}
use Rattle.acl_base.specs.declared.SymId.{SymId}
use Rattle.acl_syms.specs.Answers.{AreKnown, numbers, package_with}
use Rattle.acl_syms.specs.Fields.{symbols_of, package_of, packages_of, table_of, AreFields}
use Rattle.acl_syms.specs.Imports.{Gathers}
use Rattle.acl_syms.specs.declared.Package.{Package}
use Rattle.acl_syms.proofs.FieldLemmas.{position_named}
use Rattle.acl_syms.proofs.MapLemmas.{on_err}
use Rattle.acl_syms.proofs.PackageLemmas.{table-added, AreFields-package}
use Rattle.acl_syms.proofs.Symbols.put_package.Goals as goal

pub enlist-requires : goal.enlist-requires
enlist-requires c =
    ap (λ (n : List ℕ). position (bytes_eq n) (map (λ k. k.items) c.self.inside.names.keys)) c.in_ok-key.ensures.items
    ∙ (ap (position (bytes_eq c.args.name.now)) c.self.invariant.listed
    ∙ (position_named c.self.inside.packages.items c.self.inside.symbols.items c.args.name.now
    ∙ (ap (λ (t : Table). package_number t.packages c.args.name.now) c.self.view_is ∙ c.requires.fresh)))

pub returns-in_err-push-clause-err : goal.returns-in_err-push-clause-err
returns-in_err-push-clause-err c =
    on_err c.from_residual-in_err-push.result (ap (λ ps. table_of ps c.self.inside.symbols.items) c.in_err-push.ensures.items ∙ c.self.view_is)

pub returns-in_err-push-clause-grows : goal.returns-in_err-push-clause-grows
returns-in_err-push-clause-grows c =
    subst (λ (t : Table). Extends c.args.self.now t) (sym (ap (λ ps. table_of ps c.self.inside.symbols.items) c.in_err-push.ensures.items ∙ c.self.view_is)) (Extends-self c.args.self.now)

pub invariant_of-self-in-Ok : goal.invariant_of-self-in-Ok
invariant_of-self-in-Ok c =
    let ps = c.self.inside.packages.items in
    let ss = c.self.inside.symbols.items in
    let names = map (λ k. k.items) c.self.inside.names.keys in
    let p : Package = record { name = c.in_ok-own.own; imports = c.in_ok-imports.imports; known = c.args.known } in
    let view : symbols_of ps ss ≡ c.args.self.now.symbols = ap (λ (t : Table). t.symbols) c.self.view_is in
    let fresh : package_number (packages_of (symbols_of ps ss) ps) p.name.items ≡ None =
    ap (package_number (packages_of (symbols_of ps ss) ps)) c.in_ok-own.ensures.items ∙ (ap (λ (t : Table). package_number t.packages c.args.name.now) c.self.view_is ∙ c.requires.fresh) in
    let known : AreKnown (symbols_of ps ss) p.imports.items =
    subst (λ (x : List QualifiedName). AreKnown x p.imports.items) (sym view) (subst (λ (x : List SymId). AreKnown c.args.self.now.symbols x) (sym c.in_ok-imports.ensures.items) c.requires.imports) in
    let gathers : Gathers (λ k. k.items) (symbols_of ps ss) (symbols_at (symbols_of ps ss) (numbers p.imports.items)) p.known =
    subst (λ (x : List QualifiedName). Gathers (λ k. k.items) x (symbols_at x (numbers p.imports.items)) p.known) (sym view)
    (subst (λ (x : List SymId). Gathers (λ k. k.items) c.args.self.now.symbols (symbols_at c.args.self.now.symbols (numbers x)) p.known) (sym c.in_ok-imports.ensures.items) c.requires.known) in
    let f = AreFields-package ps ss names c.self.invariant p fresh known gathers in
    let listed : map (λ k. k.items) c.enlist.new.names.keys ≡ names ++ p.name.items ∷ [] =
    c.in-Ok.ensures.ok ∙ ap (λ (n : List ℕ). names ++ n ∷ []) (c.in_ok-key.ensures.items ∙ sym c.in_ok-own.ensures.items) in
    subst (λ (x : List Package). AreFields x ss (map (λ k. k.items) c.enlist.new.names.keys)) (sym c.in_ok-push.ensures.items)
    (subst (λ (x : List (List ℕ)). AreFields (ps ++ p ∷ []) ss x) (sym listed) f)

pub returns-in-Ok-clause-ok : goal.returns-in-Ok-clause-ok
returns-in-Ok-clause-ok c =
    let ps = c.self.inside.packages.items in
    let ss = c.self.inside.symbols.items in
    let names = map (λ k. k.items) c.self.inside.names.keys in
    let p : Package = record { name = c.in_ok-own.own; imports = c.in_ok-imports.imports; known = c.args.known } in
    let e : table_of (ps ++ p ∷ []) ss ≡ with_package c.args.self.now (package_with c.args.self.now.symbols c.args.name.now c.args.imports.now) =
    table-added ps ss names c.self.invariant p
    ∙ (ap (λ (t : Table). with_package t (package_of t.symbols p)) c.self.view_is
    ∙ (λ i. with_package c.args.self.now (package_with c.args.self.now.symbols (c.in_ok-own.ensures.items i) (c.in_ok-imports.ensures.items i)))) in
    ap (λ x. table_of x ss) c.in_ok-push.ensures.items ∙ e

pub returns-in-Ok-clause-grows : goal.returns-in-Ok-clause-grows
returns-in-Ok-clause-grows c =
    let ps = c.self.inside.packages.items in
    let ss = c.self.inside.symbols.items in
    let names = map (λ k. k.items) c.self.inside.names.keys in
    let p : Package = record { name = c.in_ok-own.own; imports = c.in_ok-imports.imports; known = c.args.known } in
    let e : table_of (ps ++ p ∷ []) ss ≡ with_package c.args.self.now (package_with c.args.self.now.symbols c.args.name.now c.args.imports.now) =
    table-added ps ss names c.self.invariant p
    ∙ (ap (λ (t : Table). with_package t (package_of t.symbols p)) c.self.view_is
    ∙ (λ i. with_package c.args.self.now (package_with c.args.self.now.symbols (c.in_ok-own.ensures.items i) (c.in_ok-imports.ensures.items i)))) in
    subst (λ (t : Table). Extends c.args.self.now t) (sym (ap (λ x. table_of x ss) c.in_ok-push.ensures.items ∙ e))
    (Extends-package c.args.self.now (package_with c.args.self.now.symbols c.args.name.now c.args.imports.now))

pub returns-in-Err-clause-grows : goal.returns-in-Err-clause-grows
returns-in-Err-clause-grows c =
    let ps = c.self.inside.packages.items in
    let ss = c.self.inside.symbols.items in
    let names = map (λ k. k.items) c.self.inside.names.keys in
    let p : Package = record { name = c.in_ok-own.own; imports = c.in_ok-imports.imports; known = c.args.known } in
    let back : c.truncate.new.self.items ≡ ps = c.truncate.ensures.items ∙ (ap (take c.len-number.result) c.in_ok-push.ensures.items ∙ take_at ps (p ∷ []) c.len-number.result (omega arith)) in
    subst (λ (t : Table). Extends c.args.self.now t) (sym (ap (λ x. table_of x ss) back ∙ c.self.view_is)) (Extends-self c.args.self.now)
