-- The check is written where it stands, worked out from what stands there and what changed.
use Rattle.std.proofs.Common.{ℕ, ap, ◌∙◌}
use Rattle.buffers.specs.Overwrite.{overwrite}
use Rattle.buffers.specs.LittleEndian.{bytes_of}
use Rattle.sheet.specs.Checks.{check_position}
use Rattle.sheet_changes.proofs.Renewed.{renewed_sum}
use Rattle.sheet_changes.proofs.renew_check.Goals as goal

pub returns : goal.returns
returns c =
    let block = c.args.block in
    let sheet = c.args.sheet.now in
    c.put_number.ensures.now_is
    ∙ ap (λ (v : ℕ). overwrite (check_position block) (bytes_of 4 v) sheet)
    (renewed_sum sheet block _ _ _ _ c.requires.2 c.u32_at.ensures.0 c.wrapping_sub_u32-without.ensures.value c.wrapping_add_u32-check.ensures.value)
