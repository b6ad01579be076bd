pub mod ReportBytes
