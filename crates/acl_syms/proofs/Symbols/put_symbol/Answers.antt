use Rattle.std.specs.Prelude.{◌≡◌, ◌<◌, ◌∷◌, [], ◌++◌, List, ℕ, length, Some, slice_get, set, map, take, refl}
use Rattle.std.proofs.Common.{arith, sym, ap, ◌∙◌, subst}
use Rattle.std.specs.HashMap.{get_by}
use Rattle.std.specs.Map.{lookup}
use Rattle.std.specs.Str.{bytes_eq}
use Rattle.std.proofs.lemmas.List.{length-map, take_at}
use Rattle.model_symbols.specs.Symbols.{Table}
use Rattle.model_symbols.specs.Growth.{Extends}
use Rattle.model_symbols.specs.Tables.{symbol_under}
use Rattle.model_symbols.proofs.TableLemmas.{Extends-self, Extends-symbol}
use Rattle.acl_syms.specs.Answers.{Interns}
use Rattle.acl_syms.specs.Fields.{names_of, symbol_of, symbols_of, package_of, table_of, AreFields, Learns}
use Rattle.acl_syms.specs.declared.Package.{Package}
use Rattle.acl_syms.specs.declared.Symbol.{Symbol}
use Rattle.acl_syms.proofs.FieldLemmas.{read}
use Rattle.acl_syms.proofs.GrowthLemmas.{IsLike, AreFields-symbol, AreFields-same, table-set, unknown_at, unknown_symbol, interns_new, table_put}
use Rattle.acl_syms.proofs.Symbols.put_symbol.Goals as goal

pub learn-requires : goal.learn-requires
learn-requires c =
    let ps = c.self.inside.packages.items in
    let ss = c.self.inside.symbols.items in
    let p = c.index_mut-package.result.now in
    let low : c.args.p.0 < length ps = omega (arith, c.requires.within, ap (λ (t : Table). length t.packages) c.self.view_is, length-map ps (package_of (symbols_of ps ss))) in
    let at : slice_get ps c.args.p.0 ≡ Some p = read ps c.args.p.0 p low c.index_mut-package.ensures.value in
    ap (λ (n : List ℕ). get_by (λ k. bytes_eq n k.items) p.known) c.in_ok-key.ensures.items
    ∙ unknown_at ps ss (map (λ k. k.items) c.self.inside.names.keys) c.args.self.now c.self.invariant c.self.view_is c.args.p.0 p at c.args.name.now c.requires.unknown

pub invariant_of-self-in-Ok : goal.invariant_of-self-in-Ok
invariant_of-self-in-Ok c =
    let ps = c.self.inside.packages.items in
    let ss = c.self.inside.symbols.items in
    let p = c.index_mut-package.result.now in
    let low : c.args.p.0 < length ps = omega (arith, c.requires.within, ap (λ (t : Table). length t.packages) c.self.view_is, length-map ps (package_of (symbols_of ps ss))) in
    let at : slice_get ps c.args.p.0 ≡ Some p = read ps c.args.p.0 p low c.index_mut-package.ensures.value in
    let names = map (λ k. k.items) c.self.inside.names.keys in
    let q : Package = record { name = p.name; imports = p.imports; known = c.learn.new.known } in
    let like : IsLike q p = record { name = refl; imports = refl } in
    let s : Symbol = record { home = c.args.p; name = c.in_ok-own.own } in
    let n : c.len-number.result ≡ length ss = omega arith in
    let learnt = subst (λ (m : ℕ). Learns (λ k. k.items) p.known q.known c.args.name.now m) n (subst (λ (x : List ℕ). Learns (λ k. k.items) p.known q.known x c.len-number.result) c.in_ok-key.ensures.items c.in-Ok.ensures.learns) in
    subst (λ (x : List Symbol). AreFields (set ps c.args.p.0 q) x names) (sym c.in_ok-push.ensures.items)
    (AreFields-symbol ps ss names c.self.invariant c.args.p.0 p q at like s c.args.name.now refl c.in_ok-own.ensures.items
    (unknown_symbol ps ss names c.args.self.now c.self.invariant c.self.view_is c.args.p.0 p at c.args.name.now c.requires.unknown)
    learnt (omega (arith, c.requires.room, ap (λ (t : Table). length t.symbols) c.self.view_is, length-map ss (symbol_of (names_of ps)))))

pub returns-in-Ok-clause-ok : goal.returns-in-Ok-clause-ok
returns-in-Ok-clause-ok c =
    let ps = c.self.inside.packages.items in
    let ss = c.self.inside.symbols.items in
    let p = c.index_mut-package.result.now in
    let low : c.args.p.0 < length ps = omega (arith, c.requires.within, ap (λ (t : Table). length t.packages) c.self.view_is, length-map ps (package_of (symbols_of ps ss))) in
    let at : slice_get ps c.args.p.0 ≡ Some p = read ps c.args.p.0 p low c.index_mut-package.ensures.value in
    let names = map (λ k. k.items) c.self.inside.names.keys in
    let q : Package = record { name = p.name; imports = p.imports; known = c.learn.new.known } in
    let like : IsLike q p = record { name = refl; imports = refl } in
    let s : Symbol = record { home = c.args.p; name = c.in_ok-own.own } in
    let e : table_of (set ps c.args.p.0 q) c.push.new.self.items ≡ record { packages = c.args.self.now.packages; symbols = c.args.self.now.symbols ++ symbol_under c.args.self.now c.args.p.0 c.args.name.now ∷ [] } =
    ap (table_of (set ps c.args.p.0 q)) c.in_ok-push.ensures.items
    ∙ table_put ps ss names c.args.self.now c.self.invariant c.self.view_is c.args.p.0 p q at like s c.args.name.now refl c.in_ok-own.ensures.items c.requires.unknown in
    let count : c.len-number.result ≡ length c.args.self.now.symbols = omega (arith, ap (λ (t : Table). length t.symbols) c.self.view_is, length-map ss (symbol_of (names_of ps))) in
    let made : Interns c.args.self.now (table_of (set ps c.args.p.0 q) c.push.new.self.items) c.args.p.0 c.args.name.now c.len-number.result =
    interns_new c.args.self.now (table_of (set ps c.args.p.0 q) c.push.new.self.items) c.args.p.0 c.args.name.now c.len-number.result c.requires.unknown c.requires.room e count in
    made

pub returns-in-Ok-clause-grows : goal.returns-in-Ok-clause-grows
returns-in-Ok-clause-grows c =
    let ps = c.self.inside.packages.items in
    let ss = c.self.inside.symbols.items in
    let p = c.index_mut-package.result.now in
    let low : c.args.p.0 < length ps = omega (arith, c.requires.within, ap (λ (t : Table). length t.packages) c.self.view_is, length-map ps (package_of (symbols_of ps ss))) in
    let at : slice_get ps c.args.p.0 ≡ Some p = read ps c.args.p.0 p low c.index_mut-package.ensures.value in
    let names = map (λ k. k.items) c.self.inside.names.keys in
    let q : Package = record { name = p.name; imports = p.imports; known = c.learn.new.known } in
    let like : IsLike q p = record { name = refl; imports = refl } in
    let s : Symbol = record { home = c.args.p; name = c.in_ok-own.own } in
    let e : table_of (set ps c.args.p.0 q) c.push.new.self.items ≡ record { packages = c.args.self.now.packages; symbols = c.args.self.now.symbols ++ symbol_under c.args.self.now c.args.p.0 c.args.name.now ∷ [] } =
    ap (table_of (set ps c.args.p.0 q)) c.in_ok-push.ensures.items
    ∙ table_put ps ss names c.args.self.now c.self.invariant c.self.view_is c.args.p.0 p q at like s c.args.name.now refl c.in_ok-own.ensures.items c.requires.unknown in
    let count : c.len-number.result ≡ length c.args.self.now.symbols = omega (arith, ap (λ (t : Table). length t.symbols) c.self.view_is, length-map ss (symbol_of (names_of ps))) in
    let made : Interns c.args.self.now (table_of (set ps c.args.p.0 q) c.push.new.self.items) c.args.p.0 c.args.name.now c.len-number.result =
    interns_new c.args.self.now (table_of (set ps c.args.p.0 q) c.push.new.self.items) c.args.p.0 c.args.name.now c.len-number.result c.requires.unknown c.requires.room e count in
    subst (λ (t : Table). Extends c.args.self.now t) (sym made.table) (Extends-symbol c.args.self.now (symbol_under c.args.self.now c.args.p.0 c.args.name.now))

pub invariant_of-self-in-Err : goal.invariant_of-self-in-Err
invariant_of-self-in-Err c =
    let ps = c.self.inside.packages.items in
    let ss = c.self.inside.symbols.items in
    let p = c.index_mut-package.result.now in
    let low : c.args.p.0 < length ps = omega (arith, c.requires.within, ap (λ (t : Table). length t.packages) c.self.view_is, length-map ps (package_of (symbols_of ps ss))) in
    let at : slice_get ps c.args.p.0 ≡ Some p = read ps c.args.p.0 p low c.index_mut-package.ensures.value in
    let names = map (λ k. k.items) c.self.inside.names.keys in
    let q : Package = record { name = p.name; imports = p.imports; known = c.learn.new.known } in
    let like : IsLike q p = record { name = refl; imports = refl } in
    let s : Symbol = record { home = c.args.p; name = c.in_ok-own.own } in
    let back : c.truncate.new.self.items ≡ ss = c.truncate.ensures.items ∙ (ap (take c.len-number.result) c.in_ok-push.ensures.items ∙ take_at ss (s ∷ []) c.len-number.result (omega arith)) in
    subst (λ (x : List Symbol). AreFields (set ps c.args.p.0 q) x names) (sym back)
    (AreFields-same ps ss names c.self.invariant c.args.p.0 p q at like (λ name. ap (lookup (λ k. bytes_eq name k.items)) c.in-Err.ensures.err))

pub returns-in-Err-clause-err : goal.returns-in-Err-clause-err
returns-in-Err-clause-err c =
    let ps = c.self.inside.packages.items in
    let ss = c.self.inside.symbols.items in
    let p = c.index_mut-package.result.now in
    let low : c.args.p.0 < length ps = omega (arith, c.requires.within, ap (λ (t : Table). length t.packages) c.self.view_is, length-map ps (package_of (symbols_of ps ss))) in
    let at : slice_get ps c.args.p.0 ≡ Some p = read ps c.args.p.0 p low c.index_mut-package.ensures.value in
    let names = map (λ k. k.items) c.self.inside.names.keys in
    let q : Package = record { name = p.name; imports = p.imports; known = c.learn.new.known } in
    let like : IsLike q p = record { name = refl; imports = refl } in
    let s : Symbol = record { home = c.args.p; name = c.in_ok-own.own } in
    let back : c.truncate.new.self.items ≡ ss = c.truncate.ensures.items ∙ (ap (take c.len-number.result) c.in_ok-push.ensures.items ∙ take_at ss (s ∷ []) c.len-number.result (omega arith)) in
    ap (table_of (set ps c.args.p.0 q)) back ∙ (table-set ps c.args.p.0 p q at like ss ∙ c.self.view_is)

pub returns-in-Err-clause-grows : goal.returns-in-Err-clause-grows
returns-in-Err-clause-grows c =
    let ps = c.self.inside.packages.items in
    let ss = c.self.inside.symbols.items in
    let p = c.index_mut-package.result.now in
    let low : c.args.p.0 < length ps = omega (arith, c.requires.within, ap (λ (t : Table). length t.packages) c.self.view_is, length-map ps (package_of (symbols_of ps ss))) in
    let at : slice_get ps c.args.p.0 ≡ Some p = read ps c.args.p.0 p low c.index_mut-package.ensures.value in
    let names = map (λ k. k.items) c.self.inside.names.keys in
    let q : Package = record { name = p.name; imports = p.imports; known = c.learn.new.known } in
    let like : IsLike q p = record { name = refl; imports = refl } in
    let s : Symbol = record { home = c.args.p; name = c.in_ok-own.own } in
    let back : c.truncate.new.self.items ≡ ss = c.truncate.ensures.items ∙ (ap (take c.len-number.result) c.in_ok-push.ensures.items ∙ take_at ss (s ∷ []) c.len-number.result (omega arith)) in
    subst (λ (t : Table). Extends c.args.self.now t) (sym (ap (table_of (set ps c.args.p.0 q)) back ∙ (table-set ps c.args.p.0 p q at like ss ∙ c.self.view_is))) (Extends-self c.args.self.now)
