-- What disks, devices, entropies and wires are said to do.
use Rattle.disk_model.specs.declared.disk.Disk as Disk
use Rattle.source_devices.specs.declared.device.Device as Device
use Rattle.source_devices.specs.declared.entropy.Entropy as Entropy
use Rattle.source_devices.specs.declared.wire.Wire as Wire

-- The parts of a network outside its managers: for each, the members of its trait that contracts speak of.
pub record Outside (K Q E X : Type 0) : Type 1 where
  pub disk : Disk.Ghosts K
  pub device : Device.Ghosts Q
  pub entropy : Entropy.Ghosts E
  pub wire : Wire.Ghosts X

abbrev pub outside : {K Q E X : Type 0} → Disk.Ghosts K → Device.Ghosts Q → Entropy.Ghosts E → Wire.Ghosts X → Outside K Q E X
outside of_disk of_device of_entropy of_wire = record { disk = of_disk; device = of_device; entropy = of_entropy; wire = of_wire }
