-- One more object is open, and one more mark if the second `push` succeeds. The containers still fit (`fits_opened`).
use Rattle.miniserde_value.proofs.Containers.{fits_opened}
use Rattle.miniserde_value.proofs.json.builder.Builder.open_object.Goals as goal

pub invariant_of-self-2 : goal.invariant_of-self-2
invariant_of-self-2 c = record {
  fits = fits_opened c.push-2.result _ c.args.self.now.objects.items c.args.self.now.containers.items
      (record { object = _; objects = c.in_ok-push.ensures.items; marks = c.push-2.ensures.items }) c.args.self.now.fits;
}
