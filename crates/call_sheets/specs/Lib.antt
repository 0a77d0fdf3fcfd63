pub mod SheetCalls
pub mod AdmittedWay
