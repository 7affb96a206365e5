use Rattle.std.specs.Prelude.{◌≡◌, ◌+◌, ◌-◌, ◌≤◌, List, length, take, drop}
use Rattle.std.proofs.Common.{arith, rules, sym, ap, ◌∙◌, refl}
use Rattle.std.proofs.lemmas.List.{length-drop}
use Rattle.model_symbols.specs.Symbols.{Package}
use Rattle.model_text.specs.Next.{run, nothing_read}
use Rattle.acl_read_scan.specs.Built.{state_at, packages_of}
use Rattle.acl_read.proofs.ReaderLemmas.{next_resumed, next_same, run_resumed, passed_on, all_scanned, left_behind, fresh_fits}
use Rattle.acl_read.proofs.Reader.resume.Goals as goal

pub returns-in-Err-clause-takes : goal.returns-in-Err-clause-takes
returns-in-Err-clause-takes c = λ start f. λ n.
    let r = c.args.self.now in
    let t = c.args.syms.now in
    let u = c.next_word-answer.new.syms in
    let l : r.from ≤ r.scanned = search rules in
    next_same start t u c.args.current r c.next_word-answer.ensures.packages
    ∙ (next_resumed start t c.args.current r c.as_slice.result.now l c.as_slice.ensures.value f ∙ c.in-Err.ensures.answers n)

pub returns-in-Some-clause-takes : goal.returns-in-Some-clause-takes
returns-in-Some-clause-takes c = λ start f.
    let r = c.args.self.now in
    let t = c.args.syms.now in
    let u = c.next_word-answer.new.syms in
    let at = c.next_word-answer.new.built.at in
    let l : r.from ≤ r.scanned = search rules in
    let e = next_same start t u c.args.current r c.next_word-answer.ensures.packages ∙ next_resumed start t c.args.current r c.as_slice.result.now l c.as_slice.ensures.value f in
    let a = rw c.in-Some.is at c.in-Ok.ensures.answers in
    let near = rw c.in-Some.is at c.in-Ok.ensures.at in
    let low : r.taken ≤ at = omega (arith, c.requires.place, near.0) in (
      e ∙ a.0,
      a.1,
      low,
      left_behind r.bytes.items r.from (at - r.taken) (r.from + (at - r.taken)) refl,
      fresh_fits _ c.start_anew.ensures.fresh (omega (arith, c.start_anew.ensures.at, a.2)) (sym c.start_anew.ensures.at) refl,
    )

pub returns-in-None-clause-takes : goal.returns-in-None-clause-takes
returns-in-None-clause-takes c = λ start f.
    let r = c.args.self.now in
    let t = c.args.syms.now in
    let u = c.next_word-answer.new.syms in
    let p = packages_of t c.args.current in
    let s = state_at t r.built in
    let zero = nothing_read start r.taken in
    let slice = c.as_slice.result.now in
    let l : r.from ≤ r.scanned = search rules in
    let e = next_same start t u c.args.current r c.next_word-answer.ensures.packages ∙ next_resumed start t c.args.current r slice l c.as_slice.ensures.value f in
    let a = rw c.in-None.is at c.in-Ok.ensures.answers in
    let near = rw c.in-None.is at c.in-Ok.ensures.at in
    let on = passed_on r.bytes.items slice r.scanned c.as_slice.ensures.value in
    let n : c.len-self.result ≡ length r.bytes.items = search rules in
    let m : r.scanned ≤ length r.bytes.items = search rules in (
      e ∙ a.0,
      refl,
      refl,
      record {
        built = a.2;
        place = omega (arith, near, c.requires.place, l, n, m, ap length on, length-drop r.scanned r.bytes.items);
        leads = ap (λ (all : List Package). run (record { all = all; current = c.args.current.0 }) zero (take (c.len-self.result - r.from) (drop r.from r.bytes.items))) c.next_word-answer.ensures.packages
            ∙ (ap (run p zero) (all_scanned r.bytes.items r.from c.len-self.result n)
            ∙ (run_resumed p zero s r.bytes.items r.from r.scanned l f.leads
            ∙ (ap (run p s) (sym on) ∙ a.1)));
      },
    )
