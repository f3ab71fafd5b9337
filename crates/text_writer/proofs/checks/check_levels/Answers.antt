use Rattle.std.proofs.Common.{◌≡◌, ◌<◌, get_or, take, inl, inr, below_more}
use Rattle.text_writer.specs.Levels.{level}
use Rattle.text_writer.proofs.Low.{level_more, passed_small}
use Rattle.text_writer.proofs.checks.check_levels.Goals as goal

pub loop-at-preserved : goal.loop-at-preserved
loop-at-preserved c =
    let t = c.args.text.now in
    let i = c.loop-at.at in
    let d = c.loop-at.depth in
    let under : get_or t i 0 ≡ 40 → d < 16 = λ h. elim c.else-byte-eq40.either [ inl w ↦ w.1 | inr w ↦ absurd (w h) ] in
    record {
      depth = rw (level_more t i c.loop-at-test.true, ← c.loop-at.invariant.depth) c.pass-depth.ensures;
      most = rw c.pass-depth.ensures (passed_small d (get_or t i 0) c.loop-at.invariant.most under);
      shallow = below_more (λ k. get_or t k 0 ≡ 40 → level 0 (take k t) < 16) i c.loop-at.invariant.shallow (rw c.loop-at.invariant.depth at under);
    }
