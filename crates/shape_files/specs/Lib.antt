pub mod ShapeFile
pub mod MachineFile
