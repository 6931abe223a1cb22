use Rattle.std.proofs.Common.{◌≡◌, ◌-◌, length, arith}
use Rattle.kf_text.proofs.Pages.{behind_zeros}
use Rattle.kf_text.proofs.page.put_to_width.Goals as goal

pub returns : goal.returns
returns c =
    let missing = c.saturating_sub-missing.result in
    let same : missing ≡ c.args.width - length c.args.digits.now =
    grind (arith, c.saturating_sub-missing.ensures, c.from.ensures) in
    record {
      put = behind_zeros c.args.page.now.items c.put.new.page.items c.put-2.new.page.items c.args.digits.now
          c.args.width missing (omega (arith, same, c.ranges.width.fits)) same c.put.ensures.put c.put-2.ensures.put;
    }
