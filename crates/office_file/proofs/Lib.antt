mod system_files
