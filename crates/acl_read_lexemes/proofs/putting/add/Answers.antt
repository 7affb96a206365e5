use Rattle.acl_read_lexemes.proofs.PutLemmas.{added, refused}
use Rattle.acl_read_lexemes.proofs.putting.add.Goals as goal

pub returns-in-Err-clause-puts : goal.returns-in-Err-clause-puts
returns-in-Err-clause-puts c = refused c.args.syms.now.symbols c.args.lexeme c.args.at c.args.frames.now.items c.args.lexemes.now.items c.in-Err.fault c.requires.open c.in-Err.ensures.puts

pub returns-in_ok-push-in-Ok-clause-puts : goal.returns-in_ok-push-in-Ok-clause-puts
returns-in_ok-push-in-Ok-clause-puts c =
    added c.args.syms.now.symbols c.args.lexeme c.args.at c.args.frames.now.items c.put_frame.new.frames.items c.args.lexemes.now.items c.push.new.self.items c.in-Ok.progress c.requires.open c.requires.known c.in_ok-push-in-Ok.ensures.items c.in-Ok.ensures.puts
