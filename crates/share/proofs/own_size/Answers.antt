-- A second recording that is written 0 times adds nothing (`size_none`).
use Rattle.recording.specs.Recording.{entries_of}
use Rattle.share.proofs.SizeLaws.{size_none}
use native.Mathlib.Omega.{arith}
use Rattle.share.proofs.own_size.Goals as goal

pub text_size-requires-clause-n_bound : goal.text_size-requires-clause-n_bound
text_size-requires-clause-n_bound c =
    let s = c.args.content in
    omega (arith, size_none s.text.now s.text.now (entries_of s.entries.now) (entries_of s.entries.now), c.requires.entries_bound)

pub returns : goal.returns
returns c =
    let s = c.args.content in
    rw (size_none s.text.now s.text.now (entries_of s.entries.now) (entries_of s.entries.now)) c.text_size.ensures
